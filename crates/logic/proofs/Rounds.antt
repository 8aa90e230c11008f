-- n + 1 rounds of a monotone operator over n states come to its least or greatest fixed point.
use Rattle.std.proofs.Common.{◌≡◌, ℕ, zero, suc, ◌<◌, ◌≤◌, Bool, true, false, cond, ◌⊎◌, sym, refl, ap, ◌∙◌, inl, inr, ⊎_elim, arith}
use mathlib.Core.Path.{fun_ext}
use mathlib.Core.Bool.{not-not}
use native.Mathlib.Decide.{le_ind}
use Rattle.std.proofs.lemmas.Bool.{cases_Bool, both_ways, not-true, not_from_false}
use Rattle.logic.specs.FixedPoints.{rounds, lfp, gfp}
use Rattle.logic.specs.Sets.{Set, ◌∈◌, empty, full, complement, Within}
use Rattle.logic.proofs.Search.{at_last}
use Rattle.logic.proofs.Sets.{Monotone, complement_turns}

pub rounds-within : (n : ℕ) (f g : Set → Set) → ((T U : Set) → Within n T U → Within n (f T) (g U)) → (T U : Set) → Within n T U → (i : ℕ) → Within n (rounds f i T) (rounds g i U)
rounds-within n f g h T U k zero = k
rounds-within n f g h T U k (suc i) = h (rounds f i T) (rounds g i U) (rounds-within n f g h T U k i)

-- how many of the states below n a set has
count : ℕ → Set → ℕ
count zero T = 0
count (suc n) T = cond (T n) (suc (count n T)) (count n T)

count_le : (n : ℕ) (T : Set) → count n T ≤ n
unfolding count
count_le zero T = omega arith
count_le (suc n) T = go (T n) (count_le n T)
  where
    go : (b : Bool) → count n T ≤ n → cond b (suc (count n T)) (count n T) ≤ suc n
    go true h = omega arith
    go false h = omega arith

grow_one : (a b : Bool) → (a ≡ true → b ≡ true) → (x y : ℕ) → x ≤ y → (S : Type 0) → S ⊎ (x < y) → (cond a (suc x) x ≤ cond b (suc y) y) × ((S × (b ≡ true → a ≡ true)) ⊎ (cond a (suc x) x < cond b (suc y) y))
grow_one true true h x y l S d = (omega arith, ⊎_elim (λ z. inl (z, λ e. refl)) (λ z. inr (omega arith)) d)
grow_one true false h x y l S d = absurd (both_ways false refl (h refl))
grow_one false true h x y l S d = (omega arith, inr (omega arith))
grow_one false false h x y l S d = (l, ⊎_elim (λ z. inl (z, λ e. e)) inr d)

-- a larger set is no larger, or has more states
grows : (n : ℕ) (T U : Set) → Within n T U → (count n T ≤ count n U) × (Within n U T ⊎ (count n T < count n U))
unfolding count
grows zero T U h = (omega arith, inl (λ s l. absurd (omega arith)))
grows (suc n) T U h =
    let r = grows n T U (λ s l. h s (omega arith)) in
    let z = grow_one (T n) (U n) (h n (omega arith)) (count n T) (count n U) r.0 (Within n U T) r.1 in
    (z.0, ⊎_elim (λ w. inl (at_last (λ s. s ∈ U → s ∈ T) n w.0 w.1)) inr z.1)

module _ (n : ℕ) (f : Set → Set) (mono : Monotone n f) where
  up : (i : ℕ) → Within n (rounds f i empty) (rounds f (suc i) empty)
  up zero s l e = absurd (both_ways false refl e)
  up (suc i) s l e = mono (rounds f i empty) (rounds f (suc i) empty) (up i) s l e

  -- up to round i each round had a state more, or no more came
  shut : (i : ℕ) → Within n (rounds f (suc i) empty) (rounds f i empty) ⊎ (i ≤ count n (rounds f i empty))
  shut zero = inr (omega arith)
  shut (suc i) =
      let on : Within n (rounds f (suc i) empty) (rounds f i empty) → Within n (rounds f (suc (suc i)) empty) (rounds f (suc i) empty) =
      mono (rounds f (suc i) empty) (rounds f i empty) in
      ⊎_elim (λ h. inl (on h))
      (λ h. ⊎_elim (λ k. inl (on k)) (λ k. inr (omega arith)) (grows n (rounds f i empty) (rounds f (suc i) empty) (up i)).1)
      (shut i)

  pub lfp_shut : Within n (f (lfp n f)) (lfp n f)
  lfp_shut = ⊎_elim (λ h. h) (λ l. absurd (omega (arith, count_le n (rounds f (suc n) empty)))) (shut (suc n))

  pub up_to : (i k : ℕ) → i ≤ k → Within n (rounds f i empty) (rounds f k empty)
  up_to i k h =
      le_ind (λ j. Within n (rounds f i empty) (rounds f j empty)) (λ s l e. e) (λ j g ih s l e. up j s l (ih s l e)) k h

  pub lfp-least : (T : Set) → Within n (f T) T → Within n (lfp n f) T
  lfp-least T h = go (suc n)
    where
      go : (i : ℕ) → Within n (rounds f i empty) T
      go zero s l e = absurd (both_ways false refl e)
      go (suc i) s l e = h s l (mono (rounds f i empty) T (go i) s l e)

  pub lfp_open : Within n (lfp n f) (f (lfp n f))
  lfp_open = lfp-least (f (lfp n f)) (mono (f (lfp n f)) (lfp n f) lfp_shut)

  pub gfp-greatest : (T : Set) → Within n T (f T) → Within n T (gfp n f)
  gfp-greatest T h = go (suc n)
    where
      go : (i : ℕ) → Within n T (rounds f i full)
      go zero = λ s l e. refl
      go (suc i) = λ s l e. mono T (rounds f i full) (go i) s l (h s l e)

-- rounds from everything, turned
unfoldable pub turned : (Set → Set) → Set → Set
turned f T = complement (f (complement T))

pub rounds_turned : (f : Set → Set) (i : ℕ) → rounds f i full ≡ complement (rounds (turned f) i empty)
unfolding turned
rounds_turned f zero = refl
rounds_turned f (suc i) =
    ap f (rounds_turned f i) ∙ fun_ext (λ s. sym (not-not (f (complement (rounds (turned f) i empty)) s)))

turned_monotone : (n : ℕ) (f : Set → Set) → Monotone n f → Monotone n (turned f)
unfolding turned
turned_monotone n f h T U k =
    complement_turns n (f (complement U)) (f (complement T)) (h (complement U) (complement T) (complement_turns n T U k))

pub gfp_open : (n : ℕ) (f : Set → Set) → Monotone n f → Within n (gfp n f) (f (gfp n f))
unfolding turned
gfp_open n f mono = rw (rounds_turned f (suc n)) go
  where
    L : Set
    L = lfp n (turned f)

    go : Within n (complement L) (f (complement L))
    go s l e =
        ⊎_elim (λ t. t)
        (λ t. absurd (both_ways (L s) (not-true (L s) e) (lfp_shut n (turned f) (turned_monotone n f mono) s l (not_from_false (f (complement L) s) t))))
        (cases_Bool (f (complement L) s))

pub gfp_shut : (n : ℕ) (f : Set → Set) → Monotone n f → Within n (f (gfp n f)) (gfp n f)
gfp_shut n f mono = gfp-greatest n f mono (f (gfp n f)) (mono (gfp n f) (f (gfp n f)) (gfp_open n f mono))
