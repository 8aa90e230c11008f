-- What a model means, and the laws that every model owes.
use Rattle.std.specs.Prelude.{◌≡◌, ℕ, ◌<◌, ◌≤◌, Bool, true, Some, None, Option, ◌≢◌}

-- a finite transition system with labelled states; states and propositions are numbered from 0
pub record Meaning : Type 0 where
  pub states : ℕ  -- how many states
  pub props : ℕ  -- how many propositions
  pub step : ℕ → ℕ → Bool  -- step s t: state s has a step to state t
  pub holds : ℕ → ℕ → Bool  -- holds p s: proposition p holds in state s

-- at most 4,096 states and 64 propositions; steps and holdings only of what exists
pub record Lawful (m : Meaning) : Type 0 where
  pub few_states : m.states ≤ 4096
  pub few_props : m.props ≤ 64
  pub steps_from : (s t : ℕ) → m.step s t ≡ true → s < m.states
  pub steps_to : (s t : ℕ) → m.step s t ≡ true → t < m.states
  pub holds_props : (p s : ℕ) → m.holds p s ≡ true → p < m.props
  pub holds_states : (p s : ℕ) → m.holds p s ≡ true → s < m.states

-- r is the least number from t on that passes, absent where none does
abbrev pub Least : (ℕ → Bool) → ℕ → Option ℕ → Type 0
Least passes t None = (u : ℕ) → t ≤ u → passes u ≢ true
Least passes t (Some u) = (t ≤ u) × (passes u ≡ true) × ((v : ℕ) → t ≤ v → v < u → passes v ≢ true)
