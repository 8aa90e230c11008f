-- F and G as operators with a set to be reached and a set to be kept, and their duals.
use Rattle.std.proofs.Common.{◌≡◌, ℕ, zero, suc, true, false, not, ◌&&◌, ◌||◌, ◌⊎◌, sym, refl, ap, ◌∙◌, inl, inr, ⊎_elim}
use Rattle.std.proofs.lemmas.Bool.{and_parts, and_from, and_cases, or_cases, or_parts, or_left, or_right, not-true, not-false, not_from_false}
use Rattle.model.specs.Meaning.{Meaning}
use Rattle.logic.specs.FixedPoints.{pre, F, G, rounds, lfp, gfp}
use Rattle.logic.specs.Sets.{Set, ◌∈◌, empty, full, complement, Within}
use Rattle.logic.proofs.Joining.{Rule, reach_in, keep_in}
use Rattle.logic.proofs.Joining.Part.{at, to, on}
use Rattle.logic.proofs.Sets.{complement_turns, complement_twice}
use Rattle.logic.proofs.Steps.{pre-within, pre_dual}

-- the two sets change places
abbrev pub dual : (Set → Set → Set) → Set → Set → Set
dual op U V = complement (op (complement V) (complement U))

rounds_dual : (f g : Set → Set) → ((T : Set) → f (complement T) ≡ complement (g T)) → (T : Set) (i : ℕ) → rounds f i (complement T) ≡ complement (rounds g i T)
rounds_dual f g h T zero = refl
rounds_dual f g h T (suc i) = ap f (rounds_dual f g h T i) ∙ h (rounds g i T)

keep_dual : (n : ℕ) (op : Set → Set → Set) → keep_in n op ≡ complement (reach_in n (dual op))
keep_dual n op =
    rounds_dual (λ U. gfp n (λ V. op U V)) (λ V. lfp n (λ U. dual op U V))
    (λ T. rounds_dual (λ V. op (complement T) V) (λ U. dual op U T) (λ U. sym (complement_twice (op (complement T) (complement U)))) empty (suc n))
    full (suc n)

reach_dual : (n : ℕ) (op : Set → Set → Set) → reach_in n op ≡ complement (keep_in n (dual op))
reach_dual n op =
    rounds_dual (λ V. lfp n (λ U. op U V)) (λ U. gfp n (λ V. dual op U V))
    (λ T. rounds_dual (λ U. op U (complement T)) (λ V. dual op T V) (λ V. sym (complement_twice (op (complement V) (complement T)))) full (suc n))
    empty (suc n)

-- outside a fixed point is inside its dual's
outside : (T U : Set) → T ≡ complement U → (s : ℕ) → s ∈ complement T → s ∈ U
outside T U e s h = not-false (U s) (sym (ap (λ (V : Set). V s) e) ∙ not-true (T s) h)

pub out_of_keep : (n : ℕ) (op : Set → Set → Set) (s : ℕ) → s ∈ complement (keep_in n op) → s ∈ reach_in n (dual op)
out_of_keep n op = outside (keep_in n op) (reach_in n (dual op)) (keep_dual n op)

pub out_of_reach : (n : ℕ) (op : Set → Set → Set) (s : ℕ) → s ∈ complement (reach_in n op) → s ∈ keep_in n (dual op)
out_of_reach n op = outside (reach_in n op) (keep_in n (dual op)) (reach_dual n op)

module _ (m : Meaning) (own S1 S2 : Set) where
  abbrev n : ℕ
  n = m.states

  abbrev Neither : Set
  Neither s = not (S1 s) && not (S2 s)

  pub F_monotone : (T T' : Set) → Within n T T' → Within n (F m own S1 S2 T) (F m own S1 S2 T')
  unfolding F
  F_monotone T T' h s l e =
      ⊎_elim (λ a. or_left (S1 s) _ a)
      (λ a. let r = and_parts (S2 s) (pre m own T s) a in or_right (S1 s) _ (and_from (S2 s) _ r.0 (pre-within m own T T' h s r.1)))
      (or_cases (S1 s) (S2 s && pre m own T s) e)

  -- F, with its set to be reached at last
  pub F-reach : Rule m own S1 S2 empty (λ U V. F m own S1 S2 U)
  unfolding F
  F-reach = record {
    monotone = λ U U' V V' h k. F_monotone U U' h;
    parts = λ U V s l e.
        ⊎_elim at (λ a. let r = and_parts (S2 s) (pre m own U s) a in to r.0 r.1) (or_cases (S1 s) (S2 s && pre m own U s) e);
  }

  -- F, with its set to be kept for ever
  pub F-keep : Rule m own S1 empty S2 (λ U V. F m own S1 S2 V)
  unfolding F
  F-keep = record {
    monotone = λ U U' V V' h k. F_monotone V V' k;
    parts = λ U V s l e.
        ⊎_elim at (λ a. let r = and_parts (S2 s) (pre m own V s) a in on r.0 r.1) (or_cases (S1 s) (S2 s && pre m own V s) e);
  }

  G_cases : (U V : Set) (s : ℕ) → s ∈ G m own S1 S2 U V → (s ∈ S1) ⊎ ((s ∈ pre m own U) ⊎ ((s ∈ S2) × (s ∈ pre m own V)))
  unfolding G
  G_cases U V s e =
      ⊎_elim (λ a. ⊎_elim inl (λ b. inr (inl b)) (or_cases (S1 s) (pre m own U s) a))
      (λ a. inr (inr (and_parts (S2 s) (pre m own V s) a))) (or_cases (S1 s || pre m own U s) (S2 s && pre m own V s) e)

  G-from : (U V : Set) (s : ℕ) → (s ∈ S1) ⊎ ((s ∈ pre m own U) ⊎ ((s ∈ S2) × (s ∈ pre m own V))) → s ∈ G m own S1 S2 U V
  unfolding G
  G-from U V s (inl a) = or_left (S1 s || pre m own U s) _ (or_left (S1 s) _ a)
  G-from U V s (inr (inl a)) = or_left (S1 s || pre m own U s) _ (or_right (S1 s) _ a)
  G-from U V s (inr (inr (a, b))) = or_right (S1 s || pre m own U s) _ (and_from (S2 s) (pre m own V s) a b)

  pub G_monotone : (U U' V V' : Set) → Within n U U' → Within n V V' → Within n (G m own S1 S2 U V) (G m own S1 S2 U' V')
  G_monotone U U' V V' h k s l e =
      G-from U' V' s
      (⊎_elim inl (⊎_elim (λ b. inr (inl (pre-within m own U U' h s b))) (λ b. inr (inr (b.0, pre-within m own V V' k s b.1)))) (G_cases U V s e))

  pub G_rule : Rule m own S1 full S2 (λ U V. G m own S1 S2 U V)
  G_rule = record {
    monotone = G_monotone;
    parts = λ U V s l e. ⊎_elim at (⊎_elim (to refl) (λ b. on b.0 b.1)) (G_cases U V s e);
  }

  dual_monotone : (op : Set → Set → Set) → ((U U' V V' : Set) → Within n U U' → Within n V V' → Within n (op U V) (op U' V')) → (U U' V V' : Set) → Within n U U' → Within n V V' → Within n (dual op U V) (dual op U' V')
  dual_monotone op mono U U' V V' h k =
      complement_turns n (op (complement V') (complement U')) (op (complement V) (complement U))
      (mono (complement V') (complement V) (complement U') (complement U) (complement_turns n V V' k) (complement_turns n U U' h))

  -- outside F: outside S1, and outside S2 or without the steps
  outside_F : (T : Set) (s : ℕ) → complement (F m own S1 S2 T) s ≡ true → (s ∈ complement S1) × ((s ∈ Neither) ⊎ (pre m own T s ≡ false))
  unfolding F
  outside_F T s e =
      let r = or_parts (S1 s) (S2 s && pre m own T s) (not-true _ e) in
      let out = not_from_false (S1 s) r.0 in
      (out, ⊎_elim (λ a. inl (and_from (not (S1 s)) _ out (not_from_false (S2 s) a))) inr (and_cases (S2 s) (pre m own T s) r.1))

  pub F_reach_dual : Rule m (complement own) Neither empty (complement S1) (dual (λ U V. F m own S1 S2 U))
  F_reach_dual = record {
    monotone = dual_monotone (λ U V. F m own S1 S2 U) F-reach.monotone;
    parts = λ U V s l e. let r = outside_F (complement V) s e in ⊎_elim at (λ a. on r.0 (pre_dual m own V s a)) r.1;
  }

  pub F_keep_dual : Rule m (complement own) Neither (complement S1) empty (dual (λ U V. F m own S1 S2 V))
  F_keep_dual = record {
    monotone = dual_monotone (λ U V. F m own S1 S2 V) F-keep.monotone;
    parts = λ U V s l e. let r = outside_F (complement U) s e in ⊎_elim at (λ a. to r.0 (pre_dual m own U s a)) r.1;
  }

  pub G_dual : Rule m (complement own) empty (complement S1) Neither (dual (λ U V. G m own S1 S2 U V))
  unfolding G
  G_dual = record {
    monotone = dual_monotone (λ U V. G m own S1 S2 U V) G_monotone;
    parts = λ U V s l e.
        let r = or_parts (S1 s || pre m own (complement V) s) (S2 s && pre m own (complement U) s) (not-true _ e) in
        let q = or_parts (S1 s) (pre m own (complement V) s) r.0 in
        let out = not_from_false (S1 s) q.0 in
        ⊎_elim (λ a. on (and_from (not (S1 s)) _ out (not_from_false (S2 s) a)) (pre_dual m own V s q.1))
        (λ a. to out (pre_dual m own U s a)) (and_cases (S2 s) (pre m own (complement U) s) r.1);
  }
