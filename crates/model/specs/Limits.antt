-- A meaning cut down to what exists.
use Rattle.std.specs.Prelude.{ℕ, Bool, cond, ◌&&◌, nat_le, nat_lt}
use Rattle.model.specs.Meaning.{Meaning}

-- n states and p propositions are within the limits
abbrev pub within : ℕ → ℕ → Bool
within n p = nat_le n 4096 && nat_le p 64

-- a count that is kept only within the limits
abbrev pub kept : ℕ → ℕ → ℕ → ℕ
kept n p count = cond (within n p) count 0

-- n states and p propositions, none of either beyond the limits, and of the steps and holdings given only those of what exists
abbrev pub limited : ℕ → ℕ → (ℕ → ℕ → Bool) → (ℕ → ℕ → Bool) → Meaning
limited n p steps holdings = record {
  states = kept n p n;
  props = kept n p p;
  step = λ s t. nat_lt s (kept n p n) && (nat_lt t (kept n p n) && steps s t);
  holds = λ q s. nat_lt q (kept n p p) && (nat_lt s (kept n p n) && holdings q s);
}
