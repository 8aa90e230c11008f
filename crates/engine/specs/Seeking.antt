-- How a search goes from state to state, and which states it finds, by rounds.
use Rattle.std.specs.Prelude.{◌≡◌, ℕ, suc, ◌≤◌, true}
use Rattle.model.specs.Meaning.{Meaning}
use Rattle.logic.specs.FixedPoints.{pre}
use Rattle.logic.specs.Sets.{Set, full}
use Rattle.logic.specs.Walks.{Operator}
use Rattle.logic.specs.Walks.Operator.{next, finally, globally, until, weak}
use Rattle.engine.specs.Marks.{before, Rounds}

-- a step from s to t, and none to a lower ρ
pub record Goes (m : Meaning) (ρ : ℕ → ℕ) (s t : ℕ) : Type 0 where
  pub step : m.step s t ≡ true
  pub least : (u : ℕ) → m.step s u ≡ true → ρ t ≤ ρ u

-- the states found by the rounds x: for X those with a step into round 0, else those that joined
abbrev pub found_by : Meaning → Operator → Rounds → Set
found_by m next x = pre m full (before x 1)
found_by m finally x = before x (suc m.states)
found_by m globally x = before x (suc m.states)
found_by m until x = before x (suc m.states)
found_by m weak x = before x (suc m.states)
