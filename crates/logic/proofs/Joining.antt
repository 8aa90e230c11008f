-- The round in which a state joins a fixed point is a measure that guides walks.
use Rattle.std.proofs.Common.{◌≡◌, ℕ, zero, suc, ◌<◌, ◌≤◌, Bool, true, false, cond, sym, refl, ◌∙◌, ⊎_elim, arith}
use Rattle.std.proofs.lemmas.Bool.{both_ways, cases_lt, ltb-true, lt-ltb}
use Rattle.model.specs.Meaning.{Meaning}
use Rattle.logic.specs.FixedPoints.{pre, rounds, lfp, gfp}
use Rattle.logic.specs.Searches.{Joined}
use Rattle.logic.specs.Sets.{Set, ◌∈◌, empty, full, Within}
use Rattle.logic.proofs.Measures.{Below, Local, Guide, Steady}
use Rattle.logic.proofs.Measures.Below.{mine, theirs}
use Rattle.logic.proofs.Measures.Local.{done, down, good}
use Rattle.logic.proofs.Rounds.{rounds-within, gfp_open}
use Rattle.logic.proofs.Sets.{Monotone, within_itself}
use Rattle.logic.proofs.Steps.{pre_parts}

-- the least number below n in P, else n
least : Set → ℕ → ℕ
least P zero = 0
least P (suc n) = cond (P 0) 0 (suc (least (λ i. P (suc i)) n))

least_in : (P : Set) (n : ℕ) → least P n < n → least P n ∈ P
unfolding least
least_in P zero h = absurd (omega arith)
least_in P (suc n) h = go (P 0) (least (λ i. P (suc i)) n) refl (least_in (λ i. P (suc i)) n) h
  where
    go : (b : Bool) (r : ℕ) → P 0 ≡ b → (r < n → suc r ∈ P) → cond b 0 (suc r) < suc n → cond b 0 (suc r) ∈ P
    go true r e ih l = e
    go false r e ih l = ih (omega arith)

next_le : (b : Bool) (r i : ℕ) → r ≤ i → cond b 0 (suc r) ≤ suc i
next_le true r i h = omega arith
next_le false r i h = omega arith

least_most : (P : Set) (n : ℕ) → least P n ≤ n
unfolding least
least_most P zero = omega arith
least_most P (suc n) = next_le (P 0) _ n (least_most (λ i. P (suc i)) n)

least_le : (P : Set) (n i : ℕ) → i < n → i ∈ P → least P n ≤ i
unfolding least
least_le P zero i l h = absurd (omega arith)
least_le P (suc n) zero l h = rw h (omega arith)
least_le P (suc n) (suc i) l h = next_le (P 0) _ i (least_le (λ i. P (suc i)) n i (omega arith) h)

-- after how many rounds of f a state is there, n + 2 where it does not come by n + 1
pub join : ℕ → (Set → Set) → ℕ → ℕ
join n f s = least (λ i. rounds f i empty s) (suc (suc n))

join_in : (n : ℕ) (f : Set → Set) (s : ℕ) → join n f s < suc (suc n) → s ∈ rounds f (join n f s) empty
unfolding join
join_in n f s h = least_in (λ i. rounds f i empty s) (suc (suc n)) h

join_step : (n : ℕ) (f : Set → Set) (s : ℕ) → join n f s < suc (suc n) → (i : ℕ) × (join n f s ≡ suc i) × (s ∈ f (rounds f i empty))
join_step n f s h = go (join n f s) refl (join_in n f s h)
  where
    go : (k : ℕ) → join n f s ≡ k → s ∈ rounds f k empty → (i : ℕ) × (join n f s ≡ suc i) × (s ∈ f (rounds f i empty))
    go zero e r = absurd (both_ways false refl r)
    go (suc i) e r = (i, e, r)

join_le : (n : ℕ) (f : Set → Set) (s i : ℕ) → i < suc (suc n) → s ∈ rounds f i empty → join n f s ≤ i
unfolding join
join_le n f s i l h = least_le (λ i. rounds f i empty s) (suc (suc n)) i l h

join_most : (n : ℕ) (f : Set → Set) (s : ℕ) → join n f s ≤ suc (suc n)
unfolding join
join_most n f s = least_most (λ i. rounds f i empty s) (suc (suc n))

-- numbers that tell which rounds a state is in order the states as their joining does
pub join_order : (n : ℕ) (f : Set → Set) (ρ : ℕ → ℕ) → Joined n f ρ → (t u : ℕ) → t < n → u < n → ρ t ≤ ρ u → join n f t ≤ join n f u
join_order n f ρ joined t u p q h =
    ⊎_elim
    (λ l.
    let below = ltb-true (ρ u) (join n f u) (joined u q (join n f u) (omega arith) ∙ join_in n f u l) in
    join_le n f t (join n f u) l (sym (joined t p (join n f u) (omega arith)) ∙ lt-ltb (ρ t) (join n f u) (omega arith)))
    (λ l. omega (arith, join_most n f t)) (cases_lt (join n f u) (suc (suc n)))

below : (m : Meaning) (own : Set) (μ : ℕ → ℕ) (b s : ℕ) (T : Set) → s ∈ pre m own T → ((t : ℕ) → t < m.states → t ∈ T → μ t < b) → Below m own μ b s
below m own μ b s T h f =
    ⊎_elim (λ (o, t, l, k, e). mine t l o k (f t l e)) (λ (o, g). theirs o (λ t l k. f t l (g t l k))) (pre_parts m own T s h)

-- an operator with a set to be reached at last, U, and a set to be kept for ever, V
pub data Part (m : Meaning) (own : Set) (A B C U V : Set) (s : ℕ) : Type 0 where
  at : s ∈ A → Part m own A B C U V s
  to : s ∈ B → s ∈ pre m own U → Part m own A B C U V s
  on : s ∈ C → s ∈ pre m own V → Part m own A B C U V s

pub record Rule (m : Meaning) (own : Set) (A B C : Set) (op : Set → Set → Set) : Type 0 where
  pub monotone : (U U' V V' : Set) → Within m.states U U' → Within m.states V V' → Within m.states (op U V) (op U' V')
  pub parts : (U V : Set) (s : ℕ) → s < m.states → s ∈ op U V → Part m own A B C U V s

-- a guide that starts at s
pub record Guides (m : Meaning) (own : Set) (A B C : Set) (μ : ℕ → ℕ) (s : ℕ) : Type 0 where
  pub guide : Guide m own A B C μ
  pub starts : μ s < guide.top

abbrev pub reach_in : ℕ → (Set → Set → Set) → Set
reach_in n op = gfp n (λ V. lfp n (λ U. op U V))

abbrev pub keep_in : ℕ → (Set → Set → Set) → Set
keep_in n op = lfp n (λ U. gfp n (λ V. op U V))

module _ (m : Meaning) (own : Set) (A B C : Set) (op : Set → Set → Set) (rule : Rule m own A B C op) where
  abbrev n : ℕ
  n = m.states

  inner-lfp : Monotone n (λ V. lfp n (λ U. op U V))
  inner-lfp V V' h =
      rounds-within n (λ U. op U V) (λ U. op U V') (λ U U' k. rule.monotone U U' V V' k h) empty empty (within_itself n empty) (suc n)

  inner-gfp : Monotone n (λ U. gfp n (λ V. op U V))
  inner-gfp U U' h =
      rounds-within n (λ V. op U V) (λ V. op U' V) (λ V V' k. rule.monotone U U' V V' h k) full full (within_itself n full) (suc n)

  -- gfp V. lfp U. op U V: the measure is the last inner round, the limit the top
  module _ (s₀ : ℕ) (here : s₀ < n) (is-in : s₀ ∈ reach_in n op) where
    abbrev V : Set
    V = reach_in n op

    abbrev inner : Set → Set
    inner U = op U V

    back : Within n V (lfp n inner)
    back = gfp_open n (λ V. lfp n (λ U. op U V)) inner-lfp

    reach_local : (s : ℕ) → s < n → (i : ℕ) × (join n inner s ≡ suc i) × (s ∈ inner (rounds inner i empty)) → join n inner s < suc (suc n) → Local m own (join n inner) (λ s. suc (suc n)) A B C s
    reach_local s l (i, e, h) k = go (rule.parts (rounds inner i empty) V s l h)
      where
        go : Part m own A B C (rounds inner i empty) V s → Local m own (join n inner) (λ s. suc (suc n)) A B C s
        go (at a) = done a
        go (to b p) =
            down b (below m own (join n inner) (join n inner s) s (rounds inner i empty) p
            (λ t _ r. omega (arith, join_le n inner t i (omega arith) r)))
        go (on c p) =
            good c (below m own (join n inner) (suc (suc n)) s V p
            (λ t q r. omega (arith, join_le n inner t (suc n) (omega arith) (back t q r))))

    pub reach-guides : Guides m own A B C (join n inner) s₀
    reach-guides = record {
      guide = record {
        limit = λ s. suc (suc n);
        top = suc (suc n);
        each = λ s l k. reach_local s l (join_step n inner s k) k;
        low = λ s k. omega arith;
      };
      starts = omega (arith, join_le n inner s₀ (suc n) (omega arith) (back s₀ here is-in));
    }

  -- lfp U. gfp V. op U V: the measure is the outer round, and never rises
  module _ (s₀ : ℕ) (is-in : s₀ ∈ keep_in n op) where
    abbrev outer : Set → Set
    outer U = gfp n (λ V. op U V)

    keep_local : (s : ℕ) → s < n → (i : ℕ) × (join n outer s ≡ suc i) × (s ∈ outer (rounds outer i empty)) → join n outer s < suc (suc n) → Local m own (join n outer) (λ s. suc (join n outer s)) A B C s
    keep_local s l (i, e, h) k =
        go (rule.parts (rounds outer i empty) (rounds outer (suc i) empty) s l
        (gfp_open n (λ V. op (rounds outer i empty) V) (λ V V' z. rule.monotone _ _ V V' (within_itself n (rounds outer i empty)) z) s l h))
      where
        go : Part m own A B C (rounds outer i empty) (rounds outer (suc i) empty) s → Local m own (join n outer) (λ s. suc (join n outer s)) A B C s
        go (at a) = done a
        go (to b p) =
            down b (below m own (join n outer) (join n outer s) s (rounds outer i empty) p
            (λ t _ r. omega (arith, join_le n outer t i (omega arith) r)))
        go (on c p) =
            good c (below m own (join n outer) (suc (join n outer s)) s (rounds outer (suc i) empty) p
            (λ t q r. omega (arith, join_le n outer t (suc i) (omega arith) r)))

    pub keep-guides : (w : Guides m own A B C (join n outer) s₀) × Steady w.guide
    keep-guides = (
      record {
        guide = record {
          limit = λ s. suc (join n outer s);
          top = suc (suc n);
          each = λ s l k. keep_local s l (join_step n outer s k) k;
          low = λ s k. omega arith;
        };
        starts = omega (arith, join_le n outer s₀ (suc n) (omega arith) is-in);
      },
      λ s. omega arith,
    )
