-- Operands that were checked lie on the scale.
use Rattle.std.proofs.Common.{◌≡◌, ℕ, List, ◌<◌, ◌≤◌, Bool, true, false, cond, not, ◌&&◌, eqb, Ok, sym, refl, subst, arith}
use Rattle.std.proofs.lemmas.Bool.{or_parts, both_ways, leb-true, lt-ltb}
use Rattle.logic.specs.Formulas.{unused}
use Rattle.logic.specs.Theorems.{OnScale}
use Rattle.model.proofs.Below.{every_decides}
use Rattle.model.specs.Faults.{refusal}
use Rattle.model.specs.Meaning.{Meaning}
use Rattle.scale.specs.Grades.{Grades}
use Rattle.sheet.specs.Calls.{readable, sound, byte_at, given, first_of, second_of}
use Rattle.sheet.specs.Kinds.{operands_of}
use Rattle.sheet.specs.Over.{Fits}
use Rattle.sheet.specs.States.{State, seen}
use Rattle.sheet.specs.declared.row.Row.{Row}
use Rattle.sheet.specs.declared.sheet.Sheet.{Sheet}
use Rattle.sheet.proofs.Accepted.{checked}

first_on : (t v : Bool) (f : ℕ → ℕ) (D k : ℕ) → (not t && not v) ≡ false → (v ≡ true → f k ≤ D) → cond t unused f k ≤ D
first_on true v f D k e h = omega arith
first_on false true f D k e h = h refl
first_on false false f D k e h = absurd (both_ways true e refl)

second_on : (t v : Bool) (f : ℕ → ℕ) (D k : ℕ) → (t && not v) ≡ false → (v ≡ true → f k ≤ D) → cond t f unused k ≤ D
second_on false v f D k e h = omega arith
second_on true true f D k e h = h refl
second_on true false f D k e h = absurd (both_ways true e refl)

given_on : (s : State) (r k : ℕ) → k < s.states → sound s r ≡ true → given s r k ≤ s.levels
given_on s r k l e =
    subst (λ t. cond t (byte_at s r k) 0 ≤ s.levels) (sym (lt-ltb k s.states l)) (leb-true _ _ ((every_decides _ s.states).0 e k l))

pub on_scale : {m : Meaning} {g : Grades} (y : Sheet) (rs : List Row) (bs : List ℕ) (x : Row) → Fits m g y → Ok tt ≡ readable (seen y rs bs) x → OnScale m g (first_of (seen y rs bs) x) × OnScale m g (second_of (seen y rs bs) x)
on_scale y rs bs x fits h =
    let s = seen y rs bs in
    let parts = or_parts (not (eqb x.kind 1) && not (sound s x.a)) (eqb (operands_of x.kind) 2 && not (sound s x.b)) (checked _ (refusal 9 0) tt h) in (
      λ k i. omega (arith, first_on (eqb x.kind 1) (sound s x.a) (given s x.a) s.levels k parts.0 (given_on s x.a k (omega (arith, fits.states))), fits.levels),
      λ k i. omega (arith, second_on (eqb (operands_of x.kind) 2) (sound s x.b) (given s x.b) s.levels k parts.1 (given_on s x.b k (omega (arith, fits.states))), fits.levels),
    )
