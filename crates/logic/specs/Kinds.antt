-- The kinds of row, and the truth value of a row from those of its operands.
use Rattle.std.specs.Prelude.{◌≡◌, ℕ, ◌<◌, ◌≤◌, min, max, cond, nat_le}
use Rattle.model.specs.Meaning.{Meaning}
use Rattle.scale.specs.Grades.{Grades}
use Rattle.logic.specs.Sets.{Set}
use Rattle.logic.specs.Walks.{Quantifier, Operator, Meets, Quantified}

-- with five operators under two quantifiers, fifteen kinds
pub data Kind : Type 0 where
  prop : ℕ → Kind
  or and neg imp : Kind
  path : Quantifier → Operator → Kind

-- where a row of these degrees reaches level l
abbrev pub reach : (ℕ → ℕ) → ℕ → Set
reach d l s = nat_le l (d s)

-- v is the highest level from 1 to D with P, 0 where there is none
pub record Highest (D : ℕ) (P : ℕ → Type 0) (v : ℕ) : Type 0 where
  pub bound : v ≤ D
  pub has : 1 ≤ v → P v
  pub none_above : (l : ℕ) → v < l → l ≤ D → ¬ P l

module _ (m : Meaning) (g : Grades) where
  -- v is the truth value at s of a row whose left and right operands have the truth values a and b
  abbrev pub Value : Kind → (ℕ → ℕ) → (ℕ → ℕ) → ℕ → ℕ → Type 0
  Value (prop p) a b s v = v ≡ cond (m.holds p s) g.levels 0
  Value or a b s v = v ≡ max (a s) (b s)
  Value and a b s v = v ≡ min (a s) (b s)
  Value neg a b s v = v ≡ cond (nat_le g.levels (a s)) 0 g.levels
  Value imp a b s v = v ≡ cond (nat_le (a s) (b s)) g.levels (b s)
  Value (path q op) a b s v = Highest g.levels (λ l. Quantified q m s (Meets op (g.reading l) (reach a l) (reach b l))) v

  -- the same at every state
  abbrev pub Values : Kind → (ℕ → ℕ) → (ℕ → ℕ) → (ℕ → ℕ) → Type 0
  Values k a b d = (s : ℕ) → s < m.states → Value k a b s (d s)
