-- A trail of least numbers grows until a state comes round.
use Rattle.std.proofs.Common.{◌≡◌, ℕ, suc, ◌<◌, ◌≤◌, cond, ltb, ◌≢◌, List, length, get_or, set, sym, refl, ap, ◌∙◌, subst, ⊎_elim, arith, get_or-set_other, get_or-set_same}
use Rattle.std.proofs.lemmas.Bool.{cases_lt, lt-ltb, le-ltb}
use Rattle.model.specs.Meaning.{Meaning}
use Rattle.logic.proofs.Search.{alike}
use Rattle.engine.specs.Seeking.{Goes}

-- the state at place k of a trail of which xs has the first i states, and that has come to t
abbrev pub visit : List ℕ → ℕ → ℕ → ℕ → ℕ
visit xs i t k = cond (ltb k i) (get_or xs k 0) t

-- the trail so far, from s, in an array that held ys: no state of it comes twice
pub record Trail (m : Meaning) (ρ : ℕ → ℕ) (s : ℕ) (ys xs : List ℕ) (i t : ℕ) : Type 0 where
  pub first : visit xs i t 0 ≡ s
  pub inside : (k : ℕ) → k ≤ i → visit xs i t k < m.states
  pub goes : (k : ℕ) → k < i → Goes m ρ (visit xs i t k) (visit xs i t (suc k))
  pub apart : (j k : ℕ) → j < k → k < i → get_or xs j 0 ≡ get_or xs k 0 → ⊥
  pub later : (k : ℕ) → i ≤ k → get_or xs k 0 ≡ get_or ys k 0

written : (xs : List ℕ) (i t k : ℕ) → k < i → visit xs i t k ≡ get_or xs k 0
written xs i t k h = rw (lt-ltb k i h) refl

pub come_to : (xs : List ℕ) (i t k : ℕ) → i ≤ k → visit xs i t k ≡ t
come_to xs i t k h = rw (le-ltb k i h) refl

module _ (m : Meaning) (ρ : ℕ → ℕ) (s : ℕ) (ys xs : List ℕ) (i t : ℕ) (trail : Trail m ρ s ys xs i t) (new : (k : ℕ) → k < i → get_or xs k 0 ≡ t → ⊥) where
  -- one more step
  module _ (u : ℕ) (room : i < length xs) (go : Goes m ρ t u) (here : u < m.states) where
    zs : List ℕ
    zs = set xs i t

    kept : (k : ℕ) → k < i → get_or zs k 0 ≡ get_or xs k 0
    unfolding zs
    kept k h = let ne : k ≢ i = omega arith in rw get_or-set_other refl

    put : get_or zs i 0 ≡ t
    unfolding zs
    put = rw get_or-set_same refl

    as_was : (k : ℕ) → k ≤ i → visit zs (suc i) u k ≡ visit xs i t k
    as_was k h =
        written zs (suc i) u k (omega arith)
        ∙ ⊎_elim (λ l. kept k l ∙ sym (written xs i t k l))
        (λ l. let e : k ≡ i = omega arith in rw e (put ∙ sym (come_to xs i t i (omega arith)))) (cases_lt k i)

    steps : (k : ℕ) → k < suc i → Goes m ρ (visit zs (suc i) u k) (visit zs (suc i) u (suc k))
    steps k h =
        subst (λ a. Goes m ρ a (visit zs (suc i) u (suc k))) (sym (as_was k (omega arith)))
        (⊎_elim (λ l. subst (Goes m ρ (visit xs i t k)) (sym (as_was (suc k) (omega arith))) (trail.goes k l))
        (λ l.
        subst (Goes m ρ (visit xs i t k)) (sym (come_to zs (suc i) u (suc k) (omega arith)))
        (subst (λ a. Goes m ρ a u) (sym (come_to xs i t k l)) go)) (cases_lt k i))

    pub longer : Trail m ρ s ys (set xs i t) (suc i) u
    unfolding zs
    longer = record {
      first = as_was 0 (omega arith) ∙ trail.first;
      inside = λ k h.
          ⊎_elim (λ l. rw (as_was k (omega arith)) (trail.inside k (omega arith))) (λ l. rw (come_to zs (suc i) u k l) here) (cases_lt k (suc i));
      goes = steps;
      apart = λ j k h l e.
          ⊎_elim (λ q. trail.apart j k h q (sym (kept j (omega arith)) ∙ e ∙ kept k q))
          (λ q. let z : k ≡ i = omega arith in new j (omega arith) (sym (kept j (omega arith)) ∙ e ∙ ap (λ x. get_or zs x 0) z ∙ put)) (cases_lt k i);
      later = λ k h. let ne : k ≢ i = omega arith in rw get_or-set_other (trail.later k (omega arith));
    }

  -- after as many steps as there are states, one has come round
  pub full : i ≡ m.states → ⊥
  full e =
      let (j, k, h, l, q) = alike m.states (visit xs i t) (λ k h. trail.inside k (omega arith)) in
      let first = written xs i t j (omega arith) in
      ⊎_elim (λ z. trail.apart j k h z (sym first ∙ q ∙ written xs i t k z)) (λ z. new j (omega arith) (sym first ∙ q ∙ come_to xs i t k z))
      (cases_lt k i)
