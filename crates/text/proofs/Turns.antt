-- One line more.
use Rattle.std.proofs.Common.{◌≡◌, ℕ, zero, suc, ◌-◌, ◌<◌, List, [], ◌∷◌, length, sym, ap, arith}
use Rattle.text.specs.declared.script.Source.{Source}
use Rattle.text.specs.Lines.{Said, lines_at, line_at}
use Rattle.text.specs.Reads.{and_then}

pub lines_more : (m : Source) (k : ℕ) (h : Said) (bs : List ℕ) → 0 < length bs → 0 < k → lines_at m k h bs ≡ and_then (line_at m h bs) (lines_at m (k - 1))
lines_more m k h [] e p = absurd (omega arith)
lines_more m zero h (b ∷ bs) e p = absurd (omega arith)
lines_more m (suc k) h (b ∷ bs) e p = let less : suc k - 1 ≡ k = omega arith in ap (λ j. and_then (line_at m h (b ∷ bs)) (lines_at m j)) (sym less)
