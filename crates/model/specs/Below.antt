-- Tests over the numbers below a bound.
use Rattle.std.specs.Prelude.{ℕ, zero, suc, Bool, true, false, ◌&&◌, ◌||◌}

-- some number below n passes
abbrev pub some : ℕ → (ℕ → Bool) → Bool
some zero passes = false
some (suc n) passes = passes n || some n passes

-- every number below n passes
abbrev pub every : ℕ → (ℕ → Bool) → Bool
every zero passes = true
every (suc n) passes = passes n && every n passes
