-- The states to which a state has a step.
use Rattle.std.specs.Prelude.{ℕ, ◌-◌, List, filter}
use Rattle.std.specs.List.{range_with_len}
use Rattle.model.specs.Meaning.{Meaning}

-- those from t on, in order
abbrev pub targets : Meaning → ℕ → ℕ → List ℕ
targets m s t = filter (m.step s) (range_with_len t (m.states - t))
