-- A degree lies on the scale.
use Rattle.std.proofs.Common.{ℕ, zero, suc, ◌≤◌, Bool, true, false, cond, leb, arith}
use Rattle.logic.specs.Formulas.{Formula, kind_of, kind_of_binary, unused}
use Rattle.logic.specs.Formulas.Formula.{prop, unary, binary}
use Rattle.logic.specs.Kinds.{Kind}
use Rattle.logic.specs.Satisfaction.{highest, sat, row_degree, degree}
use Rattle.model.specs.Meaning.{Meaning}
use Rattle.scale.specs.Grades.{Grades}

highest_low : (n : ℕ) (passes : ℕ → Bool) → highest n passes ≤ n
highest_low zero passes = omega arith
highest_low (suc n) passes = go (passes (suc n)) (highest_low n passes)
  where
    go : (b : Bool) → highest n passes ≤ n → cond b (suc n) (highest n passes) ≤ suc n
    go true h = omega arith
    go false h = omega arith

either_low : (b : Bool) (x y D : ℕ) → x ≤ D → y ≤ D → cond b x y ≤ D
either_low true x y D h k = h
either_low false x y D h k = k

module _ (m : Meaning) (g : Grades) where
  row_low : (k : Kind) (a b : ℕ → ℕ) (s : ℕ) → a s ≤ g.levels → b s ≤ g.levels → row_degree m g k a b s ≤ g.levels
  row_low (Kind.prop p) a b s h l = either_low (m.holds p s) g.levels 0 g.levels (omega arith) (omega arith)
  row_low Kind.or a b s h l = omega arith
  row_low Kind.and a b s h l = omega arith
  row_low Kind.neg a b s h l = either_low (leb g.levels (a s)) 0 g.levels g.levels (omega arith) (omega arith)
  row_low Kind.imp a b s h l = either_low (leb (a s) (b s)) g.levels (b s) g.levels (omega arith) l
  row_low (Kind.path q op) a b s h l = highest_low g.levels (λ l. sat m g (Kind.path q op) l a b s)

  pub degree_low : (f : Formula) (s : ℕ) → degree m g f s ≤ g.levels
  unfolding degree
  degree_low (prop p) s = row_low (Kind.prop p) unused unused s (omega arith) (omega arith)
  degree_low (unary k f) s = row_low (kind_of k) (degree m g f) unused s (degree_low f s) (omega arith)
  degree_low (binary k f h) s = row_low (kind_of_binary k) (degree m g f) (degree m g h) s (degree_low f s) (degree_low h s)
