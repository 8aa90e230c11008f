-- The client's request for a walk: what a granted one had passed, and that a refused one wrote nothing.
use Rattle.std.specs.Result.{result_ok}
use Rattle.std.proofs.Common.{◌≡◌, ℕ, ◌*◌, ◌≤◌, ltb, List, length, Some, None, Ok, Err, Result, refl, arith}
use Rattle.std.proofs.lemmas.Bool.{or_parts, ltb-false}
use Rattle.model.specs.Faults.{Refusal}
use Rattle.model.specs.Meaning.{Meaning, Lawful}
use Rattle.model.specs.Walkable.{walkability}
use Rattle.scale.specs.Grades.{Grades, Lawful as Orderly}
use Rattle.sheet.specs.Calls.{fitting}
use Rattle.sheet.specs.Faults.{answer}
use Rattle.sheet.specs.States.{State}
use Rattle.sheet.specs.Walking.{asking, operands_now, leveled, on_scale, room_to_walk, walking, record_of, Walks, WalksAfter}
use Rattle.sheet.specs.declared.fault.SheetFault.{SheetFault}
use Rattle.sheet.proofs.Accepted.{passed, checked}
use Rattle.sheet.proofs.Kept.{kept}
use Rattle.client.proofs.Entering.{Standing}

module _ (m : Meaning) (W : (ℕ → ℕ) → Type 0) (k : ℕ) (ys xs : List ℕ) where
  -- what is granted has passed the checks
  passes : (q : Result Unit Refusal) (r : Result (ℕ × ℕ) SheetFault) → WalksAfter q m W k ys xs (answer r) → (c : ℕ × ℕ) → result_ok r ≡ Some c → Ok tt ≡ q
  passes (Ok u) r w c e = refl
  passes (Err f) (Ok x) w c e = let same = w.0 in let z : ◌≡◌ {A = ℕ} 0 1 = cc in absurd (omega arith)
  passes (Err f) (Err x) w c e = let z : ◌≡◌ {A = ℕ} 0 1 = cc in absurd (omega arith)

  leaves : (q : Result Unit Refusal) (r : Result (ℕ × ℕ) SheetFault) → WalksAfter q m W k ys xs (answer r) → result_ok r ≡ None → xs ≡ ys
  leaves (Ok u) (Ok x) w e = let z : ◌≡◌ {A = ℕ} 0 1 = cc in absurd (omega arith)
  leaves (Ok u) (Err x) w e = w.same
  leaves (Err f) (Ok x) w e = let same = w.0 in let z : ◌≡◌ {A = ℕ} 0 1 = cc in absurd (omega arith)
  leaves (Err f) (Err x) w e = w.1

module _ (m : Meaning) (law : Lawful m) (g : Grades) (orderly : Orderly g) (p n k l : ℕ) (s : State) (S : Standing m g p s n)
    (ys xs : List ℕ) (r : Result (ℕ × ℕ) SheetFault) (w : Walks m g s n k l ys xs (answer r)) where
  pub asked_lawfully : (c : ℕ × ℕ) → result_ok r ≡ Some c → (1 ≤ l) × (l ≤ g.levels) × (2 * m.states ≤ length ys)
  asked_lawfully c e =
      let K = kept m law g orderly S.history in
      let all = passes m _ k ys xs (walking m g s n k l (length ys)) r w c e in
      let rest = (passed (asking s n k) _ tt (passed (walkability m) _ tt (passed (fitting s m g) _ tt all).1).1).1 in
      let level = (passed (operands_now s n (record_of s n)) (leveled s l (length ys)) tt rest).1 in
      let each = passed (on_scale s l) (room_to_walk s (length ys)) tt level in
      let on = or_parts (ltb l 1) (ltb s.levels l) (checked _ _ tt each.0) in
      let low : 1 ≤ l = ltb-false l 1 on.0 in
      let high : l ≤ s.levels = ltb-false s.levels l on.1 in
      let room : 2 * s.states ≤ length ys = ltb-false (length ys) (2 * s.states) (checked _ _ tt each.1) in
      (low, omega (arith, high, K.levels), omega (arith, room, K.states))

  pub nothing_written : result_ok r ≡ None → xs ≡ ys
  nothing_written e = leaves m _ k ys xs (walking m g s n k l (length ys)) r w e
