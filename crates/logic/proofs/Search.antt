-- Search below a number: for a number that passes, for a least measure, and for two like values among too many.
use Rattle.std.proofs.Common.{◌≡◌, ℕ, zero, suc, ◌<◌, ◌≤◌, false, cond, eqb, ◌≢◌, ◌⊎◌, sym, ◌∙◌, inl, inr, ⊎_elim, arith}
use Rattle.std.proofs.lemmas.Bool.{cases_lt, cases_Bool, cases_eq, eqb-true, eqb-false, both_ways, ne_eqb, eq-eqb}
use Rattle.logic.specs.Sets.{Set, ◌∈◌}

-- below n + 1 is below n, or n
pub split : (i n : ℕ) → i < suc n → (i < n) ⊎ (i ≡ n)
split i n h = ⊎_elim inl (λ l. inr (omega arith)) (cases_lt i n)

pub at_last : (P : ℕ → Type 0) (n : ℕ) → ((i : ℕ) → i < n → P i) → P n → (i : ℕ) → i < suc n → P i
at_last P n f x i h = ⊎_elim (f i) (λ e. rw e x) (split i n h)

pub find : (P : Set) (n : ℕ) → ((i : ℕ) × (i < n) × (i ∈ P)) ⊎ ((i : ℕ) → i < n → P i ≡ false)
find P zero = inr (λ i h. absurd (omega arith))
find P (suc n) =
    ⊎_elim (λ r. inl (r.0, omega (arith, r.1), r.2))
    (λ f. ⊎_elim (λ e. inl (n, omega arith, e)) (λ e. inr (at_last (λ i. P i ≡ false) n f e)) (cases_Bool (P n)))
    (find P n)

-- the first number that passes, from one that does
pub first : (P : Set) (n : ℕ) → n ∈ P → (i : ℕ) × (i ≤ n) × (i ∈ P) × ((j : ℕ) → j < i → P j ≡ false)
first P n h = go n n (omega arith) h
  where
    go : (fuel n : ℕ) → n ≤ fuel → n ∈ P → (i : ℕ) × (i ≤ n) × (i ∈ P) × ((j : ℕ) → j < i → P j ≡ false)
    go zero n l h = (n, omega arith, h, λ j k. absurd (omega arith))
    go (suc fuel) n l h =
        ⊎_elim (λ r. let z = go fuel r.0 (omega (arith, r.1)) r.2 in (z.0, omega (arith, z.1, r.1), z.2, z.3))
        (λ f. (n, omega arith, h, f)) (find P n)

-- t passes, and no number below n that passes has a lower measure
abbrev pub Best : (ℕ → ℕ) → Set → ℕ → ℕ → Type 0
Best m P n t = (t < n) × (t ∈ P) × ((u : ℕ) → u < n → u ∈ P → m t ≤ m u)

pub best : (m : ℕ → ℕ) (P : Set) (n : ℕ) → ((t : ℕ) × Best m P n t) ⊎ ((u : ℕ) → u < n → P u ≡ false)
best m P zero = inr (λ i h. absurd (omega arith))
best m P (suc n) = ⊎_elim old new (best m P n)
  where
    old : (t : ℕ) × Best m P n t → ((t : ℕ) × Best m P (suc n) t) ⊎ ((u : ℕ) → u < suc n → P u ≡ false)
    old (t, b) =
        let q = b.0 in let p = b.1 in let f = b.2 in
        ⊎_elim
        (λ e. ⊎_elim
        (λ l. inl (n, (omega arith, e, at_last (λ u. u ∈ P → m n ≤ m u) n (λ u h z. omega (arith, f u h z)) (λ z. omega arith))))
        (λ l. inl (t, (omega arith, p, at_last (λ u. u ∈ P → m t ≤ m u) n f (λ z. l)))) (cases_lt (m n) (m t)))
        (λ e. inl (t, (omega arith, p, at_last (λ u. u ∈ P → m t ≤ m u) n f (λ z. absurd (both_ways (P n) e z)))))
        (cases_Bool (P n))

    new : ((u : ℕ) → u < n → P u ≡ false) → ((t : ℕ) × Best m P (suc n) t) ⊎ ((u : ℕ) → u < suc n → P u ≡ false)
    new f =
        ⊎_elim
        (λ e. inl (n, (omega arith, e, at_last (λ u. u ∈ P → m n ≤ m u) n (λ u h q. absurd (both_ways (P u) (f u h) q)) (λ q. omega arith))))
        (λ e. inr (at_last (λ u. P u ≡ false) n f e)) (cases_Bool (P n))

-- of n + 1 numbers below n, two are alike
module _ (n : ℕ) (f : ℕ → ℕ) (h : (i : ℕ) → i < suc (suc n) → f i < suc n) (apart : (i : ℕ) → i < suc n → eqb (f i) (f (suc n)) ≡ false) where
  -- the last value in the place of n, so that one fewer number and one fewer value are left
  moved : ℕ → ℕ
  moved i = cond (eqb (f i) n) (f (suc n)) (f i)

  moved_is : (i : ℕ) → ((f i ≡ n) × (moved i ≡ f (suc n))) ⊎ ((f i ≡ n → ⊥) × (moved i ≡ f i))
  unfolding moved
  moved_is i =
      ⊎_elim (λ e. inl (e, rw (eq-eqb (f i) n e))) (λ e. inr (e, rw (ne_eqb (f i) n e))) (cases_eq (f i) n)

  moved_below : (i : ℕ) → i < suc n → moved i < n
  moved_below i l =
      ⊎_elim
      (λ (e, w).
      let ne : f i ≢ f (suc n) = eqb-false (f i) (f (suc n)) (apart i l) in rw w (omega (arith, h (suc n) (omega arith))))
      (λ (e, w). rw w (omega (arith, h i (omega arith), e))) (moved_is i)

  moved_back : (p q : ℕ) → p < q → q < suc n → moved p ≡ moved q → f p ≡ f q
  moved_back p q l k e =
      ⊎_elim
      (λ (a, v). ⊎_elim (λ (b, w). a ∙ sym b) (λ (b, w). absurd (eqb-false (f q) (f (suc n)) (apart q k) (cc))) (moved_is q))
      (λ (a, v).
      ⊎_elim (λ (b, w). absurd (eqb-false (f p) (f (suc n)) (apart p (omega arith)) (cc))) (λ (b, w). cc) (moved_is q))
      (moved_is p)

pub alike : (n : ℕ) (f : ℕ → ℕ) → ((i : ℕ) → i < suc n → f i < n) → (p : ℕ) × (q : ℕ) × (p < q) × (q < suc n) × (f p ≡ f q)
alike zero f h = absurd (omega (arith, h 0 (omega arith)))
alike (suc n) f h =
    ⊎_elim (λ r. (r.0, suc n, r.1, omega arith, eqb-true (f r.0) (f (suc n)) r.2))
    (λ apart.
    let (p, q, l, k, e) = alike n (moved n f h apart) (moved_below n f h apart) in
    (p, q, l, omega arith, moved_back n f h apart p q l k e))
    (find (λ i. eqb (f i) (f (suc n))) (suc n))
