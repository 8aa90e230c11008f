-- Steps into a set.
use Rattle.std.proofs.Common.{◌≡◌, ℕ, ◌<◌, true, false, not, ◌&&◌, ◌||◌, ◌⊎◌, inl, inr, ⊎_elim}
use Rattle.std.proofs.lemmas.Bool.{cases_Bool, both_ways, and_parts, and_from, or_cases, or_left, or_right, not-true, not_from_true, not_from_false}
use Rattle.model.proofs.Below.{some_decides, every_decides}
use Rattle.model.specs.Meaning.{Meaning}
use Rattle.logic.specs.FixedPoints.{pre}
use Rattle.logic.specs.Sets.{Set, ◌∈◌, complement, Within}
use Rattle.logic.proofs.Search.{find}

module _ (m : Meaning) (own T : Set) (s : ℕ) where
  -- some step into T, where the step is ours to choose
  abbrev pub Some : Type 0
  Some = (own s ≡ true) × (t : ℕ) × (t < m.states) × (m.step s t ≡ true) × (t ∈ T)

  -- all steps into T, where it is not
  abbrev pub All : Type 0
  All = (own s ≡ false) × ((t : ℕ) → t < m.states → m.step s t ≡ true → t ∈ T)

  pub pre_parts : s ∈ pre m own T → Some ⊎ All
  unfolding pre
  pre_parts h =
      ⊎_elim
      (λ o.
      let (t, l, e) = (some_decides (λ t. m.step s t && T t) m.states).0 (rw o at h) in
      let r = and_parts (m.step s t) (T t) e in inl (o, t, l, r.0, r.1))
      (λ o. inr (
        o,
        λ t l k.
            ⊎_elim (λ e. absurd (both_ways (m.step s t) (not-true (m.step s t) e) k)) (λ e. e)
            (or_cases (not (m.step s t)) (T t) ((every_decides (λ t. not (m.step s t) || T t) m.states).0 (rw o at h) t l)),
      ))
      (cases_Bool (own s))

  pub pre-some : own s ≡ true → (t : ℕ) → t < m.states → m.step s t ≡ true → t ∈ T → s ∈ pre m own T
  unfolding pre
  pre-some o t l k e = rw o ((some_decides (λ t. m.step s t && T t) m.states).1 (t, l, and_from (m.step s t) (T t) k e))

  pub pre_all : own s ≡ false → ((t : ℕ) → t < m.states → m.step s t ≡ true → t ∈ T) → s ∈ pre m own T
  unfolding pre
  pre_all o f =
      rw o ((every_decides (λ t. not (m.step s t) || T t) m.states).1 (λ t l.
      ⊎_elim (λ k. or_right (not (m.step s t)) (T t) (f t l k)) (λ k. or_left (not (m.step s t)) (T t) (not_from_false (m.step s t) k))
      (cases_Bool (m.step s t))))

pub pre-within : (m : Meaning) (own T U : Set) → Within m.states T U → (s : ℕ) → s ∈ pre m own T → s ∈ pre m own U
pre-within m own T U h s e =
    ⊎_elim (λ (o, t, l, k, z). pre-some m own U s o t l k (h t l z)) (λ (o, f). pre_all m own U s o (λ t l k. h t l (f t l k)))
    (pre_parts m own T s e)

-- what one side cannot force, the other can avoid
pub pre_dual : (m : Meaning) (own T : Set) (s : ℕ) → pre m own (complement T) s ≡ false → s ∈ pre m (complement own) T
pre_dual m own T s h = ⊎_elim mine theirs (cases_Bool (own s))
  where
    mine : own s ≡ true → s ∈ pre m (complement own) T
    mine o =
        pre_all m (complement own) T s (not_from_true (own s) o) (λ t l k.
        ⊎_elim (λ e. e)
        (λ e. absurd (both_ways (pre m own (complement T) s) h (pre-some m own (complement T) s o t l k (not_from_false (T t) e))))
        (cases_Bool (T t)))

    theirs : own s ≡ false → s ∈ pre m (complement own) T
    theirs o =
        ⊎_elim
        (λ (t, l, e).
        let r = and_parts (m.step s t) (T t) e in pre-some m (complement own) T s (not_from_false (own s) o) t l r.0 r.1)
        (λ f. absurd (both_ways (pre m own (complement T) s) h (pre_all m own (complement T) s o (λ t l k.
        ⊎_elim (λ e. absurd (both_ways (m.step s t && T t) (f t l) (and_from (m.step s t) (T t) k e))) (not_from_false (T t))
        (cases_Bool (T t))))))
        (find (λ t. m.step s t && T t) m.states)
