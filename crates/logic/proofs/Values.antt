-- The degree of a formula is its one truth value.
use Rattle.std.proofs.Common.{◌≡◌, ℕ, ◌<◌, refl}
use Rattle.model.specs.Meaning.{Meaning, Lawful}
use Rattle.model.specs.Walkable.{Total}
use Rattle.scale.specs.Grades.{Grades, Lawful as Orderly}
use Rattle.logic.specs.Formulas.{Formula, kind_of, kind_of_binary, Truth, unused}
use Rattle.logic.specs.Formulas.Formula.{prop, unary, binary}
use Rattle.logic.specs.Kinds.{Kind, Values}
use Rattle.logic.specs.Satisfaction.{row_degree, degree}
use Rattle.logic.specs.Theorems.{DegreeIsTruth, TruthUnique}
use Rattle.logic.proofs.Rows.{row_degree_is_value, value_unique}

module _ (m : Meaning) (law : Lawful m) (total : Total m) (g : Grades) (orderly : Orderly g) where
  is : (k : Kind) (a b : ℕ → ℕ) → Values m g k a b (row_degree m g k a b)
  is k a b s here = row_degree_is_value m law total g orderly k a b s here

  gives : (f : Formula) → Truth m g f (degree m g f)
  unfolding degree
  gives (prop p) = is (Kind.prop p) unused unused
  gives (unary k f) = (degree m g f, gives f, is (kind_of k) (degree m g f) unused)
  gives (binary k f h) = (degree m g f, degree m g h, gives f, gives h, is (kind_of_binary k) (degree m g f) (degree m g h))

  abbrev Agree : (ℕ → ℕ) → (ℕ → ℕ) → Type 0
  Agree d e = (s : ℕ) → s < m.states → d s ≡ e s

  unique : (k : Kind) (a b a' b' d e : ℕ → ℕ) → Agree a a' → Agree b b' → Values m g k a b d → Values m g k a' b' e → Agree d e
  unique k a b a' b' d e ea eb x y s here = value_unique m law total g orderly k a b a' b' ea eb s (d s) (e s) here (x s here) (y s here)

  alone : (f : Formula) (d e : ℕ → ℕ) → Truth m g f d → Truth m g f e → Agree d e
  alone (prop p) d e x y = unique (Kind.prop p) unused unused unused unused d e (λ s h. refl) (λ s h. refl) x y
  alone (unary k f) d e (a, ta, x) (a', ta', y) = unique (kind_of k) a unused a' unused d e (alone f a a' ta ta') (λ s h. refl) x y
  alone (binary k f h) d e (a, b, ta, tb, x) (a', b', ta', tb', y) =
      unique (kind_of_binary k) a b a' b' d e (alone f a a' ta ta') (alone h b b' tb tb') x y

pub degree_is_truth : DegreeIsTruth
degree_is_truth = gives

pub truth_unique : TruthUnique
truth_unique = alone
