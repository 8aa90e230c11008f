-- Whether a model can be walked without end.
use Rattle.std.specs.Prelude.{◌≡◌, ℕ, zero, suc, ◌<◌, Bool, true, cond, not, Some, None, Ok, Err, Option, Result, ◌==◌}
use Rattle.model.specs.Below.{some}
use Rattle.model.specs.Faults.{Refusal, refusal}
use Rattle.model.specs.Meaning.{Meaning}
use Rattle.model.specs.declared.fault.ModelFault.{ModelFault}
use Rattle.model.specs.declared.fault.ModelFault.TheVariants.{NoStates, DeadEnd}

-- state s has a step
abbrev pub HasStep : Meaning → ℕ → Type 0
HasStep m s = (t : ℕ) × (m.step s t ≡ true)

-- every state has a step
abbrev pub Total : Meaning → Type 0
Total m = (s : ℕ) → s < m.states → HasStep m s

-- the check's answer r, in words: the model has states and each has a step; or it has none; or s is the lowest without a step
abbrev pub Checked : Meaning → Result Unit ModelFault → Type 0
Checked m (Ok x) = (0 < m.states) × Total m
Checked m (Err NoStates) = m.states ≡ 0
Checked m (Err (DeadEnd s)) = (s < m.states) × (HasStep m s → ⊥) × ((k : ℕ) → k < s → HasStep m k)

-- the same as a function: the refusal, if any

abbrev pub or_else : {X : Type 0} → Option X → Option X → Option X
or_else None y = y
or_else (Some x) y = Some x

-- the least number below n that passes, if any
abbrev pub first : ℕ → (ℕ → Bool) → Option ℕ
first zero passes = None
first (suc n) passes = or_else (first n passes) (cond (passes n) (Some n) None)

-- the lowest state without a step, if any
abbrev pub dead_end : Meaning → Option ℕ
dead_end m = first m.states (λ s. not (some m.states (m.step s)))

abbrev pub refused_at : Option ℕ → Result Unit Refusal
refused_at None = Ok tt
refused_at (Some s) = Err (refusal 2 s)

abbrev pub walkability : Meaning → Result Unit Refusal
walkability m = cond (m.states == 0) (Err (refusal 1 0)) (refused_at (dead_end m))
