-- A degree in writing.
use Rattle.std.specs.Prelude.{ℕ, ◌-◌, cond, ◌&&◌, List, ◌++◌, replicate, Some, None, Option, nat_le}

-- degree d of so many levels: as many digits as levels, a one for each level reached, the ones last;
-- nothing for a degree above the levels, or for levels that no scale has
abbrev pub written : ℕ → ℕ → Option (List ℕ)
written levels d = cond (nat_le 1 levels && nat_le levels 4 && nat_le d levels) (Some (replicate (levels - d) 48 ++ replicate d 49)) None
