-- How long the parts of a line are.
use Rattle.std.proofs.Common.{◌≡◌, ℕ, ◌-◌, ◌<◌, ◌≤◌, Bool, true, false, cond, ◌&&◌, leb, ◌++◌, length, replicate, Some, None, decimal, refl, arith}
use Rattle.std.proofs.lemmas.Bool.{and_parts, leb-true}
use Rattle.std.proofs.lemmas.List.{length-append, length-replicate}
use Rattle.std.proofs.lemmas.Fmt.{length-decimal-le}
use Rattle.scale.specs.Digits.{written}
use Rattle.listing.specs.Writing.{text_of}

pub one_figure : (n : ℕ) → n < 10 → length (decimal n) ≤ 1
one_figure n h = length-decimal-le 1 n (omega arith) (omega arith) (omega arith)

pub five_figures : (n : ℕ) → n < 65536 → length (decimal n) ≤ 5
five_figures n h = length-decimal-le 5 n (omega arith) (omega arith) (omega arith)

-- no scale has digits for more than four levels
pub digits_short : (levels d : ℕ) → length (text_of (written levels d)) ≤ 4
digits_short levels d = go (leb 1 levels && leb levels 4 && leb d levels) refl
  where
    go : (b : Bool) → (leb 1 levels && leb levels 4 && leb d levels) ≡ b → length (text_of (cond b (Some (replicate (levels - d) 48 ++ replicate d 49)) None)) ≤ 4
    go false e = omega arith
    go true e =
        let p = and_parts (leb 1 levels && leb levels 4) (leb d levels) e in
        let q = and_parts (leb 1 levels) (leb levels 4) p.0 in
        simp (length-append, length-replicate) (omega (arith, leb-true d levels p.1, leb-true levels 4 q.1))
