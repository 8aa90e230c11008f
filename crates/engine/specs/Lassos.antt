-- Endless walks in writing: a stem, and a loop that is gone round for ever.
use Rattle.std.specs.Prelude.{◌≡◌, ℕ, zero, suc, ◌+◌, ◌<◌, ◌≤◌, true, false, cond, List, Some, None, Option, nat_lt, slice_index}
use Rattle.model.specs.Meaning.{Meaning}
use Rattle.logic.specs.Searches.{Task, sought, Guides, Followed}
use Rattle.logic.specs.Walks.{Operator}

-- the place in the writing of each position, after a stem of p states and a loop of d
unfoldable pub place : ℕ → ℕ → ℕ → ℕ
place p d zero = 0
place p d (suc i) = cond (nat_lt (suc (place p d i)) (p + d)) (suc (place p d i)) p

-- the walk that is written as a stem of p states and a loop of d
unfoldable pub endless : List ℕ → ℕ → ℕ → ℕ → ℕ
endless xs p d i = slice_index xs (place p d i)

-- a stem and a loop of at most N states in all are written in xs; the entries after them are those of ys
pub record Written (N : ℕ) (ys xs : List ℕ) (p d : ℕ) : Type 0 where
  pub loops : 1 ≤ d
  pub fits : p + d ≤ N
  pub states : (k : ℕ) → k < p + d → slice_index xs k < N
  pub later : (k : ℕ) → p + d ≤ k → slice_index xs k ≡ slice_index ys k

-- what the search for a walk from s answers, and what it leaves of the walk buffer that held ys
pub record Found (m : Meaning) (op : Operator) (t : Task) (s : ℕ) (ys xs : List ℕ) (p d : ℕ) : Type 0 where
  pub has : sought m op t s ≡ true
  pub written : Written m.states ys xs p d
  pub ρ : ℕ → ℕ
  pub guides : Guides m op t ρ
  pub followed : Followed m ρ s (endless xs p d)

abbrev pub Searched : Meaning → Operator → Task → ℕ → List ℕ → List ℕ → Option (ℕ × ℕ) → Type 0
Searched m op t s ys xs None = (sought m op t s ≡ false) × (xs ≡ ys)
Searched m op t s ys xs (Some r) = Found m op t s ys xs r.0 r.1
