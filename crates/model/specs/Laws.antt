-- What the definitions say between them.
use Rattle.std.specs.Prelude.{◌≡◌, ℕ, Bool, Option}
use Rattle.model.specs.Faults.{told}
use Rattle.model.specs.Meaning.{Least}
use Rattle.model.specs.declared.fault.ModelFault.{ModelFault}

-- there is one least number that passes, or none: the answer to the question for a step is determined
abbrev pub OneLeast : Type 0
OneLeast = (passes : ℕ → Bool) (t : ℕ) (q r : Option ℕ) → Least passes t q → Least passes t r → q ≡ r

-- number and value tell a model's faults apart
abbrev pub ToldApart : Type 0
ToldApart = (e f : ModelFault) → told e ≡ told f → e ≡ f
