-- Endless walks, and what they do. Nothing here knows of fixed points.
use Rattle.std.specs.Prelude.{◌≡◌, ℕ, suc, ◌<◌, ◌≤◌, true, ◌⊎◌, Some, None, Option}
use Rattle.model.specs.Meaning.{Meaning}
use Rattle.scale.specs.declared.reading.Reading.{Reading}
use Rattle.scale.specs.declared.reading.Reading.TheVariants.{Sometime, InfinitelyOften, EventuallyAlways, Always}
use Rattle.logic.specs.Sets.{Set, ◌∈◌}

-- an endless walk from s: its positions count from 0, and each is a step from the one before
pub record Walk (m : Meaning) (s : ℕ) (π : ℕ → ℕ) : Type 0 where
  pub start : π 0 ≡ s
  pub along : (i : ℕ) → m.step (π i) (π (suc i)) ≡ true

-- the temporal operators
pub data Operator : Type 0 where
  next finally globally until weak : Operator

-- how many positions have to be good; a level without a reading is never met
abbrev pub Often : Option Reading → (ℕ → Type 0) → Type 0
Often None good = ⊥
Often (Some Sometime) good = (j : ℕ) × good j
Often (Some InfinitelyOften) good = (k : ℕ) → (j : ℕ) × (k ≤ j) × good j
Often (Some EventuallyAlways) good = (k : ℕ) × ((j : ℕ) → k ≤ j → good j)
Often (Some Always) good = (j : ℕ) → good j

-- right was reached at some position up to j
abbrev pub Seen : Set → (ℕ → ℕ) → ℕ → Type 0
Seen right π j = (i : ℕ) × (i ≤ j) × (π i ∈ right)

-- when the walk meets a level, from the sets where the left and the right operand reach it and the level's reading
abbrev pub Meets : Operator → Option Reading → Set → Set → (ℕ → ℕ) → Type 0
Meets next r left right π = π 1 ∈ left
Meets finally r left right π = (j : ℕ) × (π j ∈ left)
Meets until r left right π = (j : ℕ) × (π j ∈ right) × ((i : ℕ) → i < j → π i ∈ left)
Meets globally r left right π = Often r (λ j. π j ∈ left)
Meets weak r left right π = Often r (λ j. (π j ∈ left) ⊎ Seen right π j)

-- E asks for some walk that does P, A that no walk breaks it; to break P is not to do it
pub data Quantifier : Type 0 where
  some_walk every_walk : Quantifier

abbrev pub Quantified : Quantifier → Meaning → ℕ → ((ℕ → ℕ) → Type 0) → Type 0
Quantified some_walk m s P = (π : ℕ → ℕ) × Walk m s π × P π
Quantified every_walk m s P = (π : ℕ → ℕ) → Walk m s π → ¬ (¬ P π)
