-- What a table means: the steps and holdings that its two lists have.
use Rattle.std.specs.Prelude.{ℕ, Bool, ◌&&◌, List, ◌==◌}
use Rattle.std.specs.List.{list_any}
use Rattle.model.specs.Meaning.{Meaning}
use Rattle.model.specs.Limits.{limited}
use Rattle.model.specs.declared.table.Step.{Step}
use Rattle.model.specs.declared.table.Holding.{Holding}

-- the record names a step from s to t
abbrev pub is_step : ℕ → ℕ → Step → Bool
is_step s t e = e.from == s && e.to == t

-- the record names a holding of p in s
abbrev pub is_holding : ℕ → ℕ → Holding → Bool
is_holding p s h = h.prop == p && h.state == s

abbrev pub listed : ℕ → ℕ → List Step → List Holding → Meaning
listed n p steps holdings = limited n p (λ s t. list_any (is_step s t) steps) (λ q s. list_any (is_holding q s) holdings)
