-- Walks that a measure guides: where it can be brought down it is, and what that makes of the walk.
use Rattle.std.proofs.Common.{◌≡◌, ℕ, zero, suc, ◌+◌, ◌-◌, ◌<◌, ◌≤◌, true, false, ◌⊎◌, sym, inl, inr, ⊎_elim, arith}
use Rattle.std.proofs.lemmas.Bool.{cases_lt}
use Rattle.model.specs.Meaning.{Meaning}
use Rattle.logic.specs.Sets.{Set, ◌∈◌}
use Rattle.logic.specs.Walks.{Seen}

-- from s the step can be taken to a measure below b where it is ours, and cannot but be where it is not
pub data Below (m : Meaning) (own : Set) (μ : ℕ → ℕ) (b s : ℕ) : Type 0 where
  mine : (t : ℕ) → t < m.states → own s ≡ true → m.step s t ≡ true → μ t < b → Below m own μ b s
  theirs : own s ≡ false → ((t : ℕ) → t < m.states → m.step s t ≡ true → μ t < b) → Below m own μ b s

-- s has A; or B, and a step to a lower measure; or C, and a step to a measure below the limit
pub data Local (m : Meaning) (own : Set) (μ limit : ℕ → ℕ) (A B C : Set) (s : ℕ) : Type 0 where
  done : s ∈ A → Local m own μ limit A B C s
  down : s ∈ B → Below m own μ (μ s) s → Local m own μ limit A B C s
  good : s ∈ C → Below m own μ (limit s) s → Local m own μ limit A B C s

-- every state whose measure is below the top is such a state, and no limit there is above the top
pub record Guide (m : Meaning) (own : Set) (A B C : Set) (μ : ℕ → ℕ) : Type 0 where
  pub limit : ℕ → ℕ
  pub top : ℕ
  pub each : (s : ℕ) → s < m.states → μ s < top → Local m own μ limit A B C s
  pub low : (s : ℕ) → μ s < top → limit s ≤ top

-- the measure never rises
abbrev pub Steady : {m : Meaning} {own A B C : Set} {μ : ℕ → ℕ} → Guide m own A B C μ → Type 0
Steady {μ = μ} g = (s : ℕ) → g.limit s ≤ suc (μ s)

-- A was seen, or the position has C
abbrev pub Good : Set → Set → (ℕ → ℕ) → ℕ → Type 0
Good A C π j = (π j ∈ C) ⊎ Seen A π j

-- until A is seen, each position has B or C
abbrev pub Keeps : Set → Set → Set → (ℕ → ℕ) → Type 0
Keeps A B C π = (j : ℕ) → Seen A π j ⊎ ((π j ∈ B) ⊎ (π j ∈ C))

abbrev pub Recurs : Set → Set → (ℕ → ℕ) → Type 0
Recurs A C π = (k : ℕ) → (j : ℕ) × (k ≤ j) × Good A C π j

abbrev pub Settles : Set → Set → (ℕ → ℕ) → Type 0
Settles A C π = (k : ℕ) × ((j : ℕ) → k ≤ j → Good A C π j)

-- where the step is ours, the walk takes one to a least measure
abbrev pub Follows : Meaning → Set → (ℕ → ℕ) → (ℕ → ℕ) → Type 0
Follows m own μ π = (j : ℕ) → own (π j) ≡ true → (t : ℕ) → t < m.states → m.step (π j) t ≡ true → μ (π (suc j)) ≤ μ t

pub seen_more : (A : Set) (π : ℕ → ℕ) (i j : ℕ) → i ≤ j → Seen A π i → Seen A π j
seen_more A π i j h (k, l, a) = (k, omega arith, a)

same : (f : ℕ → ℕ) (i j : ℕ) → i ≡ j → f i ≤ f j
same f i j e = rw e (omega arith)

module _ (m : Meaning) (own A B C : Set) (μ : ℕ → ℕ) (guide : Guide m own A B C μ) (π : ℕ → ℕ) (inside : (i : ℕ) → π i < m.states)
    (along : (i : ℕ) → m.step (π i) (π (suc i)) ≡ true) (follows : Follows m own μ π) (starts : μ (π 0) < guide.top) where
  abbrev at : ℕ → ℕ
  at j = μ (π j)

  abbrev Here : ℕ → Type 0
  Here j = Local m own μ guide.limit A B C (π j)

  next : (b j : ℕ) → Below m own μ b (π j) → at (suc j) < b
  next b j (mine t q o h l) = omega (arith, follows j o t q h)
  next b j (theirs o f) = f (π (suc j)) (inside (suc j)) (along j)

  -- as long as A has not been seen, the measure stays below the top
  stays : (j : ℕ) → Seen A π j ⊎ (at j < guide.top)
  stays zero = inr starts
  stays (suc j) =
      ⊎_elim (λ z. inl (seen_more A π j (suc j) (omega arith) z)) (λ l. go l (guide.each (π j) (inside j) l)) (stays j)
    where
      go : at j < guide.top → Here j → Seen A π (suc j) ⊎ (at (suc j) < guide.top)
      go l (done a) = inl (j, omega arith, a)
      go l (down b d) = inr (omega (arith, next (at j) j d))
      go l (good c d) = inr (omega (arith, next (guide.limit (π j)) j d, guide.low (π j) l))

  -- A was seen, or the position is as the guide says
  here : (j : ℕ) → Seen A π j ⊎ Here j
  here j = ⊎_elim inl (λ l. inr (guide.each (π j) (inside j) l)) (stays j)

  pub keeps : Keeps A B C π
  keeps j = ⊎_elim inl go (here j)
    where
      go : Here j → Seen A π j ⊎ ((π j ∈ B) ⊎ (π j ∈ C))
      go (done a) = inl (j, omega arith, a)
      go (down b d) = inr (inl b)
      go (good c d) = inr (inr c)

  -- a measure cannot go down for ever
  recurs_in : (n k : ℕ) → at k < n → (j : ℕ) × (k ≤ j) × Good A C π j
  recurs_in zero k l = absurd (omega arith)
  recurs_in (suc n) k l = ⊎_elim (λ z. (k, omega arith, inr z)) (go (recurs_in n (suc k))) (here k)
    where
      go : (at (suc k) < n → (j : ℕ) × (suc k ≤ j) × Good A C π j) → Here k → (j : ℕ) × (k ≤ j) × Good A C π j
      go ih (done a) = (k, omega arith, inr (k, omega arith, a))
      go ih (good c d) = (k, omega arith, inl c)
      go ih (down b d) = let r = ih (omega (arith, next (at k) k d)) in (r.0, omega (arith, r.1), r.2)

  pub recurs : Recurs A C π
  recurs k = recurs_in (suc (at k)) k (omega arith)

  module _ (steady : Steady guide) where
    falls : (k j : ℕ) → k ≤ j → Seen A π j ⊎ (at j ≤ at k)
    falls k zero h = inr (same at 0 k (omega arith))
    falls k (suc j) h =
        ⊎_elim
        (λ l. ⊎_elim (λ z. inl (seen_more A π j (suc j) (omega arith) z))
        (λ u. ⊎_elim (λ z. inl (seen_more A π j (suc j) (omega arith) z)) (go u) (here j)) (falls k j (omega arith)))
        (λ l. inr (same at (suc j) k (omega arith))) (cases_lt k (suc j))
      where
        go : at j ≤ at k → Here j → Seen A π (suc j) ⊎ (at (suc j) ≤ at k)
        go u (done a) = inl (j, omega arith, a)
        go u (down b d) = inr (omega (arith, next (at j) j d))
        go u (good c d) = inr (omega (arith, next (guide.limit (π j)) j d, steady (π j)))

    module _ (never : ¬ Settles A C π) where
      settles_in : (n k : ℕ) → at k < n → ⊥
      settles_in zero k l = omega arith
      settles_in (suc n) k l =
          never (k, λ j h. ⊎_elim inr (λ u. ⊎_elim inr (go j (omega arith) (settles_in n)) (here j)) (falls k j h))
        where
          go : (j : ℕ) → at j ≤ n → ((i : ℕ) → at i < n → ⊥) → Here j → Good A C π j
          go j u ih (done a) = inr (j, omega arith, a)
          go j u ih (good c d) = inl c
          go j u ih (down b d) = absurd (ih (suc j) (omega (arith, next (at j) j d)))

    -- no walk fails to settle
    pub settles : ¬ (¬ Settles A C π)
    settles never = settles_in never (suc (at 0)) 0 (omega arith)

    -- on a walk that comes round, the position from which on it has settled is at hand
    module _ (p d : ℕ) (round : (j : ℕ) → p ≤ j → π (suc d + j) ≡ π j) where
      settles_at : (j : ℕ) → p ≤ j → Good A C π (suc d + j)
      settles_at j h =
          ⊎_elim inr go (⊎_elim (λ z. inl (seen_more A π j (suc d + j) (omega arith) z)) inr (here j))
        where
          go : Here j → Good A C π (suc d + j)
          go (done a) = inr (j, omega arith, a)
          go (good c b) = inl (rw (round j h) c)
          go (down b l) =
              ⊎_elim inr
              (λ u. absurd (omega (arith, next (at j) j l, same μ (π j) (π (suc d + j)) (sym (round j h)))))
              (falls (suc j) (suc d + j) (omega arith))

      pub settles_by : (j : ℕ) → suc d + p ≤ j → Good A C π j
      settles_by j h = let e : suc d + (j - suc d) ≡ j = omega arith in rw e at (settles_at (j - suc d) (omega arith))
