-- The theorems. Each is over every lawful meaning in which every state has a step, and over every lawful scale.
use Rattle.std.specs.Prelude.{◌≡◌, ℕ, ◌<◌, ◌≤◌, false, ◌↔◌, Some}
use Rattle.model.specs.Meaning.{Meaning, Lawful}
use Rattle.model.specs.Walkable.{Total}
use Rattle.scale.specs.Grades.{Grades, Lawful as Orderly}
use Rattle.scale.specs.declared.reading.Reading.{Reading}
use Rattle.logic.specs.FixedPoints.{choosing, F, G, lfp, gfp}
use Rattle.logic.specs.Formulas.{Formula, Truth}
use Rattle.logic.specs.Kinds.{Kind, Value}
use Rattle.logic.specs.Kinds.Kind.{path}
use Rattle.logic.specs.Satisfaction.{sat_path, sat, row_degree, degree}
use Rattle.logic.specs.Sets.{Set, ◌∈◌, Within}
use Rattle.logic.specs.Walks.{Operator, Meets, Quantifier, Quantified}
use Rattle.logic.specs.Walks.Quantifier.{some_walk, every_walk}

-- of the states below n, T is what f makes of T, and no set that f maps into itself has fewer
pub record LeastFixed (n : ℕ) (f : Set → Set) (T : Set) : Type 0 where
  pub fixed : (s : ℕ) → s < n → f T s ≡ T s
  pub least : (U : Set) → Within n (f U) U → Within n T U

-- the same, and no set that f maps onto more has more
pub record GreatestFixed (n : ℕ) (f : Set → Set) (T : Set) : Type 0 where
  pub fixed : (s : ℕ) → s < n → f T s ≡ T s
  pub greatest : (U : Set) → Within n U (f U) → Within n U T

-- what is called lfp and gfp is the least and the greatest fixed point, of each operator that is used
pub record FixedPoints (m : Meaning) (own S1 S2 : Set) : Type 0 where
  pub reach : LeastFixed m.states (λ T. F m own S1 S2 T) (lfp m.states (λ T. F m own S1 S2 T))
  pub keep : GreatestFixed m.states (λ T. F m own S1 S2 T) (gfp m.states (λ T. F m own S1 S2 T))
  pub inner_least : (T2 : Set) → LeastFixed m.states (λ T1. G m own S1 S2 T1 T2) (lfp m.states (λ T1. G m own S1 S2 T1 T2))
  pub inner_greatest : (T1 : Set) → GreatestFixed m.states (λ T2. G m own S1 S2 T1 T2) (gfp m.states (λ T2. G m own S1 S2 T1 T2))
  pub outer_least : LeastFixed m.states (λ T1. gfp m.states (λ T2. G m own S1 S2 T1 T2)) (lfp m.states (λ T1. gfp m.states (λ T2. G m own S1 S2 T1 T2)))
  pub outer_greatest : GreatestFixed m.states (λ T2. lfp m.states (λ T1. G m own S1 S2 T1 T2)) (gfp m.states (λ T2. lfp m.states (λ T1. G m own S1 S2 T1 T2)))

abbrev pub FixedPointsFound : Type 0
FixedPointsFound = (m : Meaning) (own S1 S2 : Set) → FixedPoints m own S1 S2

-- the set of a path row has a state exactly where some walk from it meets the level (E), or none breaks it (A)
abbrev pub SetsAreWalks : Type 0
SetsAreWalks =
    (m : Meaning) → Lawful m → Total m → (q : Quantifier) (op : Operator) (r : Reading) (left right : Set) (s : ℕ) → s < m.states →
    (s ∈ sat_path m (choosing q) op (Some r) left right) ↔ Quantified q m s (Meets op (Some r) left right)

-- where the set of an A row lacks a state there is a walk from it that breaks the level
abbrev pub BrokenBySomeWalk : Type 0
BrokenBySomeWalk =
    (m : Meaning) → Lawful m → Total m → (op : Operator) (r : Reading) (left right : Set) (s : ℕ) → s < m.states →
    sat_path m (choosing every_walk) op (Some r) left right s ≡ false → Quantified some_walk m s (λ π. ¬ Meets op (Some r) left right π)

module _ (m : Meaning) (g : Grades) where
  -- the operands' degrees lie on the scale
  abbrev pub OnScale : (ℕ → ℕ) → Type 0
  OnScale d = (s : ℕ) → s < m.states → d s ≤ g.levels

-- a row reaches a level at a state exactly where the set of that level has the state
abbrev pub ReachesWhereSat : Type 0
ReachesWhereSat =
    (m : Meaning) → Lawful m → Total m → (g : Grades) → Orderly g → (k : Kind) (a b : ℕ → ℕ) → OnScale m g a → OnScale m g b →
    (l s : ℕ) → 1 ≤ l → l ≤ g.levels → s < m.states → (l ≤ row_degree m g k a b s) ↔ (s ∈ sat m g k l a b)

-- a higher level's set is no larger
abbrev pub LevelsShrink : Type 0
LevelsShrink =
    (m : Meaning) → Lawful m → Total m → (g : Grades) → Orderly g → (q : Quantifier) (op : Operator) (a b : ℕ → ℕ) →
    (k l : ℕ) → 1 ≤ k → k ≤ l → l ≤ g.levels → Within m.states (sat m g (path q op) l a b) (sat m g (path q op) k a b)

-- the degree of a row is its truth value, and on the scale
abbrev pub RowDegreeIsValue : Type 0
RowDegreeIsValue =
    (m : Meaning) → Lawful m → Total m → (g : Grades) → Orderly g → (k : Kind) (a b : ℕ → ℕ) → (s : ℕ) → s < m.states →
    Value m g k a b s (row_degree m g k a b s)

-- operands with the same truth values give a row one truth value
abbrev pub ValueUnique : Type 0
ValueUnique =
    (m : Meaning) → Lawful m → Total m → (g : Grades) → Orderly g → (k : Kind) (a b a' b' : ℕ → ℕ) →
    ((s : ℕ) → s < m.states → a s ≡ a' s) → ((s : ℕ) → s < m.states → b s ≡ b' s) → (s v v' : ℕ) → s < m.states →
    Value m g k a b s v → Value m g k a' b' s v' → v ≡ v'

-- the degree function gives each formula's truth values
abbrev pub DegreeIsTruth : Type 0
DegreeIsTruth =
    (m : Meaning) → Lawful m → Total m → (g : Grades) → Orderly g → (f : Formula) → Truth m g f (degree m g f)

-- and a formula has no others
abbrev pub TruthUnique : Type 0
TruthUnique =
    (m : Meaning) → Lawful m → Total m → (g : Grades) → Orderly g → (f : Formula) (d e : ℕ → ℕ) →
    Truth m g f d → Truth m g f e → (s : ℕ) → s < m.states → d s ≡ e s
