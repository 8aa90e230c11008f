-- The check that a model can be walked: what it means and what it answers.
use Rattle.std.proofs.Common.{◌≡◌, ℕ, zero, suc, ◌<◌, ◌≤◌, Bool, true, false, cond, not, ◌&&◌, eqb, ltb, is_some, Some, None, Ok, Err, Decides, Option, Result, sym, refl, ap, ◌∙◌, subst, ⊎_elim, arith}
use Rattle.std.proofs.lemmas.Bool.{and_parts, and_from, ltb-true, lt-ltb, eq-eqb, eqb-true, ne_eqb, not-true, not_from_false, both_ways, cases_Bool, cases_lt, cond-true, cond-false}
use Rattle.model.specs.Below.{some}
use Rattle.model.specs.Faults.{refusal, answer}
use Rattle.model.specs.Meaning.{Meaning, Lawful, Least}
use Rattle.model.specs.Walkable.{HasStep, Total, Checked, or_else, first, dead_end, refused_at, walkability}
use Rattle.model.specs.declared.fault.ModelFault.{ModelFault}
use Rattle.model.specs.declared.fault.ModelFault.TheVariants.{NoStates, DeadEnd}
use Rattle.model.proofs.Below.{some_decides}
use Rattle.model.proofs.Least.{least_one}

-- where a least step was found there is one
pub found-step : (m : Meaning) (s t : ℕ) (r : Option ℕ) → Least (m.step s) t r → is_some r ≡ true → HasStep m s
found-step m s t (Some u) l e = (u, l.1)
found-step m s t None l e = absurd (both_ways false refl e)

module _ (passes : ℕ → Bool) where
  extended : (n : ℕ) (r : Option ℕ) (b : Bool) → passes n ≡ b → Least (λ s. ltb s n && passes s) 0 r → Least (λ s. ltb s (suc n) && passes s) 0 (or_else r (cond b (Some n) None))
  extended n (Some k) b e l =
      let p = and_parts (ltb k n) (passes k) l.1 in let lt = ltb-true k n p.0 in (
        omega arith,
        and_from (ltb k (suc n)) (passes k) (lt-ltb k (suc n) (omega arith)) p.1,
        λ v h less q. l.2 v h less (and_from (ltb v n) (passes v) (lt-ltb v n (omega arith)) (and_parts (ltb v (suc n)) (passes v) q).1),
      )
  extended n None true e l = (
    omega arith,
    and_from (ltb n (suc n)) (passes n) (lt-ltb n (suc n) (omega arith)) e,
    λ v h less q. l v h (and_from (ltb v n) (passes v) (lt-ltb v n less) (and_parts (ltb v (suc n)) (passes v) q).1),
  )
  extended n None false e l = λ u h q. let p = and_parts (ltb u (suc n)) (passes u) q in let lt = ltb-true u (suc n) p.0 in
      ⊎_elim (λ (z : u < n). l u h (and_from (ltb u n) (passes u) (lt-ltb u n z) p.1))
      (λ (z : n ≤ u). let same : u ≡ n = omega arith in both_ways (passes n) e (subst (λ k. passes k ≡ true) same p.1)) (cases_lt u n)

  pub first-least : (n : ℕ) → Least (λ s. ltb s n && passes s) 0 (first n passes)
  first-least zero = λ u h e. let lt = ltb-true u 0 (and_parts (ltb u 0) (passes u) e).0 in omega arith
  first-least (suc n) = extended n (first n passes) (passes n) refl (first-least n)

module _ (m : Meaning) (law : Lawful m) where
  pub has-step : (s : ℕ) → Decides (some m.states (m.step s)) (HasStep m s)
  has-step s =
      let d = some_decides (m.step s) m.states in
      ((λ e. let f = d.0 e in (f.0, f.2)), (λ h. d.1 (h.0, law.steps_to s h.0 h.1, h.1)))

  stuck : ℕ → Bool
  stuck s = not (some m.states (m.step s))

  steps_on : (s : ℕ) → HasStep m s → stuck s ≡ true → ⊥
  unfolding stuck
  steps_on s h e = both_ways (some m.states (m.step s)) (not-true (some m.states (m.step s)) e) ((has-step s).1 h)

  is_stuck : (s : ℕ) → (HasStep m s → ⊥) → stuck s ≡ true
  unfolding stuck
  is_stuck s none = ⊎_elim (λ e. absurd (none ((has-step s).0 e))) (λ e. not_from_false (some m.states (m.step s)) e) (cases_Bool (some m.states (m.step s)))

  pub exact : (r : Result Unit ModelFault) → Checked m r → answer r ≡ walkability m
  unfolding stuck
  exact (Err NoStates) c = sym (cond-true (eqb m.states 0) (Err (refusal 1 0)) (refused_at (dead_end m)) (eq-eqb m.states 0 c))
  exact (Err (DeadEnd s)) c =
      let found = least_one (λ s. ltb s m.states && stuck s) 0 (dead_end m) (Some s) (first-least stuck m.states) (
        omega arith,
        and_from (ltb s m.states) (stuck s) (lt-ltb s m.states c.0) (is_stuck s c.1),
        λ v h less q. steps_on v (c.2 v less) (and_parts (ltb v m.states) (stuck v) q).1,
      ) in
      sym (cond-false (eqb m.states 0) (Err (refusal 1 0)) (refused_at (dead_end m)) (ne_eqb m.states 0 (λ e. omega (arith, c.0))) ∙ ap refused_at found)
  exact (Ok x) c =
      let found = least_one (λ s. ltb s m.states && stuck s) 0 (dead_end m) None (first-least stuck m.states)
      (λ u h q. let p = and_parts (ltb u m.states) (stuck u) q in steps_on u (c.1 u (ltb-true u m.states p.0)) p.1) in
      sym (cond-false (eqb m.states 0) (Err (refusal 1 0)) (refused_at (dead_end m)) (ne_eqb m.states 0 (λ e. omega (arith, c.0))) ∙ ap refused_at found)

  -- a model that can be walked has a step from every state
  pub walked-total : (u : Unit {0}) → Ok u ≡ walkability m → Total m
  unfolding stuck
  walked-total u e s here = ⊎_elim (λ h. (has-step s).0 h) (λ h. absurd (free (eqb m.states 0) refl s here (not_from_false (some m.states (m.step s)) h))) (cases_Bool (some m.states (m.step s)))
    where
      none : (o : Option ℕ) → Ok u ≡ refused_at o → o ≡ None
      none None k = refl
      none (Some t) k = let z : ◌≡◌ {A = ℕ} 0 1 = cc in absurd (omega arith)

      free : (b : Bool) → eqb m.states 0 ≡ b → (s : ℕ) → s < m.states → stuck s ≡ true → ⊥
      free true z s here h = let q = eqb-true m.states 0 z in omega arith
      free false z s here h =
          let o = none (dead_end m) (e ∙ cond-false (eqb m.states 0) (Err (refusal 1 0)) (refused_at (dead_end m)) z) in
          subst (λ o. Least (λ s. ltb s m.states && stuck s) 0 o) o (first-least stuck m.states) s (omega arith) (and_from (ltb s m.states) (stuck s) (lt-ltb s m.states here) h)
