-- What a call that was accepted has passed.
use Rattle.std.proofs.Common.{◌≡◌, ℕ, ◌+◌, ◌*◌, ◌<◌, ◌≤◌, Bool, true, false, cond, not, ◌&&◌, ◌||◌, eqb, ltb, leb, length, Ok, Err, Result, sym, refl, ap, ⊎_elim, arith}
use Rattle.std.proofs.lemmas.Bool.{or_parts, not-false, eqb-true, ltb-false, leb-false, eq-eqb, and_cases, both_ways, ne_eqb}
use Rattle.model.specs.Faults.{Refusal, refusal}
use Rattle.model.specs.Meaning.{Meaning, Lawful}
use Rattle.model.specs.Walkable.{Total, walkability}
use Rattle.model.proofs.Walked.{walked-total}
use Rattle.scale.specs.Grades.{Grades}
use Rattle.sheet.specs.Calls.{refuse_if, and_then, leaving, entering, enter_answer, enter_leaves, with_row}
use Rattle.sheet.specs.Kinds.{operands_of}
use Rattle.sheet.specs.States.{State}
use Rattle.sheet.specs.declared.row.Row.{Row}

never : {A X : Type 0} (e : Refusal) (x : X) → ◌≡◌ {A = Result X Refusal} (Ok x) (Err e) → A
never e x h = let z : ◌≡◌ {A = ℕ} 0 1 = cc in absurd (omega arith)

pub passed : {X : Type 0} (a : Result Unit Refusal) (r : Result X Refusal) (x : X) → Ok x ≡ and_then a r → (Ok tt ≡ a) × (Ok x ≡ r)
passed (Ok u) r x h = (refl, h)
passed (Err e) r x h = never e x h

pub checked : (b : Bool) (e : Refusal) (u : Unit {0}) → Ok u ≡ refuse_if b e → b ≡ false
checked false e u h = refl
checked true e u h = never e u h

-- what holds of a row that `enter` accepted as number n
pub record Accepted (m : Meaning) (g : Grades) (s : State) (x : Row) (n : ℕ) : Type 0 where
  pub number : n ≡ s.count
  pub total : Total m
  pub records : s.count < length s.records
  pub bytes : (s.count + 1) * s.states ≤ length s.degrees
  pub some_kind : 1 ≤ x.kind
  pub last_kind : x.kind ≤ 15
  pub first : (x.kind ≡ 1 → ⊥) → x.a < s.count
  pub second : operands_of x.kind ≡ 2 → x.b < s.count
  pub unused : (operands_of x.kind ≡ 2 → ⊥) → x.b ≡ 0
  pub leaves : enter_leaves m g s x ≡ with_row m g s x

first_is : (k a c : ℕ) → (not (eqb k 1) && leb c a) ≡ false → (k ≡ 1 → ⊥) → a < c
first_is k a c e h = ⊎_elim (λ z. absurd (h (eqb-true k 1 (not-false (eqb k 1) z)))) (leb-false c a) (and_cases (not (eqb k 1)) (leb c a) e)

second_is : (t : Bool) (b c : ℕ) → cond t (leb c b) (not (eqb b 0)) ≡ false → t ≡ true → b < c
second_is true b c e h = leb-false c b e
second_is false b c e h = absurd (both_ways false refl h)

unused_is : (t : Bool) (b c : ℕ) → cond t (leb c b) (not (eqb b 0)) ≡ false → t ≡ false → b ≡ 0
unused_is false b c e h = eqb-true b 0 (not-false (eqb b 0) e)
unused_is true b c e h = absurd (both_ways true h refl)

-- the checks of `enter` have all passed, in whatever order they stand
record Passed (m : Meaning) (s : State) (x : Row) : Type 0 where
  walks : Ok tt ≡ walkability m
  room : (leb 128 s.count || ltb (length s.records) (s.count + 1) || ltb (length s.degrees) ((s.count + 1) * s.states)) ≡ false
  kind : (ltb x.kind 1 || ltb 15 x.kind) ≡ false
  operands : (not (eqb x.kind 1) && leb s.count x.a || cond (eqb (operands_of x.kind) 2) (leb s.count x.b) (not (eqb x.b 0))) ≡ false

ok : Result Unit Refusal → Bool
ok (Ok u) = true
ok (Err e) = false

ok_then : (a r : Result Unit Refusal) → ok (and_then a r) ≡ (ok a && ok r)
unfolding ok
ok_then (Ok u) r = refl
ok_then (Err e) r = refl

ok_is : (a : Result Unit Refusal) → ok a ≡ true → Ok tt ≡ a
unfolding ok
ok_is (Ok u) e = refl
ok_is (Err x) e = absurd (both_ways false refl e)

lets_pass : (b : Bool) (e : Refusal) → ok (refuse_if b e) ≡ true → b ≡ false
lets_pass b e h = checked b e tt (ok_is (refuse_if b e) h)

entered_ok : (r : Result Unit Refusal) → Ok tt ≡ r → ok r ≡ true
unfolding ok
entered_ok r h = sym (ap ok h)

all_passed : (m : Meaning) (g : Grades) (s : State) (x : Row) → Ok tt ≡ entering m g s x → Passed m s x
all_passed m g s x h =
    let all = simp ok_then at (entered_ok (entering m g s x) h) in
    record {
      walks = ok_is (walkability m) (grind arith);
      room = lets_pass _ (refusal 4 0) (grind arith);
      kind = lets_pass _ (refusal 5 0) (grind arith);
      operands = lets_pass _ (refusal 7 0) (grind arith);
    }

pub accepted : (m : Meaning) → Lawful m → (g : Grades) (s : State) (x : Row) (n : ℕ) → Ok n ≡ enter_answer m g s x → Accepted m g s x n
accepted m law g s x n h =
    let all = passed (entering m g s x) (Ok s.count) n h in
    let p = all_passed m g s x all.0 in
    let kinds = or_parts (ltb x.kind 1) (ltb 15 x.kind) p.kind in
    let rooms = or_parts (leb 128 s.count || ltb (length s.records) (s.count + 1)) (ltb (length s.degrees) ((s.count + 1) * s.states)) p.room in
    let room = or_parts (leb 128 s.count) (ltb (length s.records) (s.count + 1)) rooms.0 in
    let operands = or_parts (not (eqb x.kind 1) && leb s.count x.a) (cond (eqb (operands_of x.kind) 2) (leb s.count x.b) (not (eqb x.b 0))) p.operands in
    record {
      number = let e = all.1 in cc;
      total = walked-total m law tt p.walks;
      records = omega (arith, ltb-false (length s.records) (s.count + 1) room.1);
      bytes = ltb-false (length s.degrees) ((s.count + 1) * s.states) rooms.1;
      some_kind = ltb-false x.kind 1 kinds.0;
      last_kind = ltb-false 15 x.kind kinds.1;
      first = λ k. first_is x.kind x.a s.count operands.0 k;
      second = λ k. second_is (eqb (operands_of x.kind) 2) x.b s.count operands.1 (eq-eqb (operands_of x.kind) 2 k);
      unused = λ k. unused_is (eqb (operands_of x.kind) 2) x.b s.count operands.1 (ne_eqb (operands_of x.kind) 2 k);
      leaves = sym (ap (λ (r : Result Unit Refusal). leaving r s (with_row m g s x)) all.0);
    }

-- a refused row leaves all as it was
pub refused_leaves : (m : Meaning) (g : Grades) (s : State) (x : Row) (e : Refusal) → Err e ≡ enter_answer m g s x → enter_leaves m g s x ≡ s
refused_leaves m g s x e h = go (entering m g s x) h
  where
    go : (r : Result Unit Refusal) → Err e ≡ and_then r (Ok s.count) → leaving r s (with_row m g s x) ≡ s
    go (Ok u) h = let z : ◌≡◌ {A = ℕ} 0 1 = cc in absurd (omega arith)
    go (Err f) h = refl
