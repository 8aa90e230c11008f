-- A trail that has come round is a stem and a loop, and so an endless walk.
use Rattle.std.proofs.Common.{◌≡◌, ℕ, zero, suc, ◌+◌, ◌-◌, ◌<◌, ◌≤◌, cond, ltb, List, get_or, sym, refl, ap, ◌∙◌, subst, ⊎_elim, arith}
use native.Mathlib.Decide.{le_ind}
use Rattle.std.proofs.lemmas.Bool.{cases_lt, lt-ltb, le-ltb}
use Rattle.model.specs.Meaning.{Meaning}
use Rattle.logic.specs.Searches.{Followed}
use Rattle.engine.specs.Lassos.{place, endless, Written}
use Rattle.engine.specs.Seeking.{Goes}
use Rattle.engine.proofs.Trails.{Trail}

module _ (p d : ℕ) (loops : 1 ≤ d) where
  -- the place after place k
  abbrev after : ℕ → ℕ
  after k = cond (ltb (suc k) (p + d)) (suc k) p

  within : (i : ℕ) → place p d i < p + d
  unfolding place
  within zero = omega arith
  within (suc i) =
      ⊎_elim (λ h. rw (lt-ltb (suc (place p d i)) (p + d) h) h) (λ h. rw (le-ltb (suc (place p d i)) (p + d) h) (omega arith))
      (cases_lt (suc (place p d i)) (p + d))

  -- the first round is written as it is walked
  early : (i : ℕ) → i < p + d → place p d i ≡ i
  unfolding place
  early zero h = refl
  early (suc i) h = rw (early i (omega arith), lt-ltb (suc i) (p + d) h) refl

  first_return : place p d (suc (d - 1) + p) ≡ p
  unfolding place
  first_return =
      let e : suc (d - 1) + p ≡ suc (d - 1 + p) = omega arith in
      ap (place p d) e ∙ ap after (early (d - 1 + p) (omega arith)) ∙ rw (le-ltb (suc (d - 1 + p)) (p + d) (omega arith)) refl

  -- from the loop on, each place comes round
  comes_round : (j : ℕ) → p ≤ j → place p d (suc (d - 1) + j) ≡ place p d j
  unfolding place
  comes_round =
      le_ind (λ j. place p d (suc (d - 1) + j) ≡ place p d j) (first_return ∙ sym (early p (omega arith)))
      (λ j h ih.
      let e : suc (d - 1) + suc j ≡ suc (suc (d - 1) + j) = omega arith in ap (place p d) e ∙ ap after ih)

-- the walk of a trail that has come to its state at place p
module _ (m : Meaning) (ρ : ℕ → ℕ) (s : ℕ) (ys xs : List ℕ) (p d t : ℕ) (loops : 1 ≤ d) (few : p + d ≤ m.states) (trail : Trail m ρ s ys xs (p + d) t) (back : get_or xs p 0 ≡ t) where
  goes_on : (k : ℕ) → k < p + d → Goes m ρ (get_or xs k 0) (get_or xs (after p d loops k) 0)
  goes_on k h =
      let go = rw (lt-ltb k (p + d) h) at (trail.goes k h) in
      ⊎_elim (λ l. rw (lt-ltb (suc k) (p + d) l) (rw (lt-ltb (suc k) (p + d) l) at go))
      (λ l. rw (le-ltb (suc k) (p + d) l, back) (rw (le-ltb (suc k) (p + d) l) at go)) (cases_lt (suc k) (p + d))

  in_writing : Written m.states ys xs p d
  in_writing = record {
    loops = loops;
    fits = few;
    states = λ k h. rw (lt-ltb k (p + d) h) at (trail.inside k (omega arith));
    later = trail.later;
  }

  follows : Followed m ρ s (endless xs p d)
  unfolding place endless
  follows = record {
    walk = record {
      start = let z = lt-ltb 0 (p + d) (omega arith) in rw z at trail.first;
      along = λ i. (goes_on (place p d i) (within p d loops i)).step;
    };
    least = λ j u. (goes_on (place p d j) (within p d loops j)).least u;
    from = p;
    period = d - 1;
    round = λ j h. ap (λ k. get_or xs k 0) (comes_round p d loops j h);
  }

-- the same, by the length of the trail
pub closed : (m : Meaning) (ρ : ℕ → ℕ) (s : ℕ) (ys xs : List ℕ) (i t p : ℕ) → Trail m ρ s ys xs i t → i ≤ m.states → (p < i) × (get_or xs p 0 ≡ t) → record {
  written : Written m.states ys xs p (i - p);
  followed : Followed m ρ s (endless xs p (i - p));
}
closed m ρ s ys xs i t p trail few here =
    let e : i ≡ p + (i - p) = omega arith in
    let parted = subst (λ k. Trail m ρ s ys xs k t) e trail in
    record {
      written = in_writing m ρ s ys xs p (i - p) t (omega arith) (omega arith) parted here.1;
      followed = follows m ρ s ys xs p (i - p) t (omega arith) (omega arith) parted here.1;
    }
