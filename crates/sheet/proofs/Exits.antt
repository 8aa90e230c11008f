-- A chain of checks ends at the first refusal.
use Rattle.std.proofs.Common.{◌≡◌, ℕ, Ok, Err, Result, refl, ap, ◌∙◌}
use Rattle.std.specs.Result.{IsErrAnd}
use Rattle.model.specs.Faults.{Refusal}
use Rattle.model.specs.Meaning.{Meaning}
use Rattle.model.specs.Walkable.{walkability}
use Rattle.scale.specs.Grades.{Grades}
use Rattle.sheet.specs.Calls.{and_then, fitting, leaving}
use Rattle.sheet.specs.Faults.{told}
use Rattle.sheet.specs.Over.{outcome}
use Rattle.sheet.specs.States.{State}
use Rattle.sheet.specs.Walking.{record_of, present, roomy_now, asks_walks, operands_now, leveled, walking}
use Rattle.sheet.specs.declared.fault.SheetFault.{SheetFault}

-- a `?` hands on the fault
pub refused : {Y : Type 0} {q : Result Unit Refusal} (r : Result Y SheetFault) (e : SheetFault) → IsErrAnd r (λ f. f ≡ e) → Err (told e) ≡ q → outcome r ≡ q
refused (Ok x) e h k = absurd h
refused (Err f) e h k = ap (λ (e : SheetFault). Err (told e)) h ∙ k

pub stops : {X : Type 0} {a : Result Unit Refusal} {e : Refusal} (r : Result X Refusal) → Err e ≡ a → Err e ≡ and_then a r
stops r h = ap (λ (a : Result Unit Refusal). and_then a r) h

pub goes : {X : Type 0} {a : Result Unit Refusal} {r z : Result X Refusal} {u : Unit {0}} → Ok u ≡ a → z ≡ r → z ≡ and_then a r
goes {a = a} {r = r} h k = k ∙ ap (λ (a : Result Unit Refusal). and_then a r) h

regrouped : {X : Type 0} (a b c d : Result Unit Refusal) (r : Result X Refusal) → and_then (and_then a (and_then b c)) (and_then d r) ≡ and_then (and_then a b) (and_then (and_then c d) r)
regrouped (Ok u) (Ok v) (Ok w) d r = refl
regrouped (Ok u) (Ok v) (Err e) d r = refl
regrouped (Ok u) (Err e) c d r = refl
regrouped (Err e) b c d r = refl

-- the checks of `walk` in the groups in which the code has them
pub in_groups : (m : Meaning) (g : Grades) (s : State) (r k l n : ℕ) →
    walking m g s r k l n
    ≡ and_then (fitting s m g) (and_then (walkability m)
    (and_then (and_then (present s r k) (roomy_now s)) (and_then (and_then (asks_walks (record_of s r)) (operands_now s r (record_of s r))) (leveled s l n))))
in_groups m g s r k l n =
    ap (λ (w : Result Unit Refusal). and_then (fitting s m g) (and_then (walkability m) w))
    (regrouped (present s r k) (roomy_now s) (asks_walks (record_of s r)) (operands_now s r (record_of s r)) (leveled s l n))

-- a call that is accepted leaves what it makes
pub accepted : (q : Result Unit Refusal) (u : Unit {0}) (s t x : State) → Ok u ≡ q → x ≡ t → x ≡ leaving q s t
accepted q u s t x h k = k ∙ ap (λ (q : Result Unit Refusal). leaving q s t) h

abbrev ok_of : Result ℕ SheetFault → ℕ
ok_of (Ok n) = n
ok_of (Err e) = 0

pub ok_same : (a b : ℕ) → ◌≡◌ {A = Result ℕ SheetFault} (Ok a) (Ok b) → a ≡ b
ok_same a b e = ap ok_of e
