-- What each fault tells: its number, and the value that it names, else 0.
use Rattle.std.specs.Prelude.{ℕ, List, ◌++◌, Ok, Err, codes, decimal, Result}
use Rattle.model.specs.declared.fault.ModelFault.{ModelFault}
use Rattle.model.specs.declared.fault.ModelFault.TheVariants.{NoStates, DeadEnd}

pub record Refusal : Type 0 where
  pub number : ℕ
  pub value : ℕ

abbrev pub refusal : ℕ → ℕ → Refusal
refusal n v = record { number = n; value = v }

-- 1: the model has no states; 2: a state has no step, the value being the lowest such state
abbrev pub told : ModelFault → Refusal
told NoStates = refusal 1 0
told (DeadEnd s) = refusal 2 s

-- an answer, with the refusal that its fault tells
abbrev pub answer : {X : Type 0} → Result X ModelFault → Result X Refusal
answer (Ok x) = Ok x
answer (Err e) = Err (told e)

-- a fault in words
abbrev pub worded : ModelFault → List ℕ
worded NoStates = codes "it has no states"
worded (DeadEnd s) = codes "state " ++ (decimal s ++ codes " has no step")
