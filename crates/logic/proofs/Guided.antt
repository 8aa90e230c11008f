-- The walk that always takes a step to a least measure, and comes round.
use Rattle.std.proofs.Common.{◌≡◌, ℕ, zero, suc, ◌+◌, ◌-◌, ◌<◌, ◌≤◌, true, sym, refl, ap, ⊎_elim, add-suc, arith}
use native.Mathlib.Decide.{le_ind}
use Rattle.std.proofs.lemmas.Bool.{both_ways}
use Rattle.model.specs.Meaning.{Meaning, Lawful}
use Rattle.model.specs.Walkable.{Total}
use Rattle.logic.specs.Walks.{Walk}
use Rattle.logic.proofs.Search.{Best, best, alike}

module _ (m : Meaning) (law : Lawful m) (total : Total m) (μ : ℕ → ℕ) where
  choose : (s : ℕ) → (t : ℕ) × (s < m.states → Best μ (m.step s) m.states t)
  choose s =
      ⊎_elim (λ r. (r.0, λ l. r.1))
      (λ f. (0, λ l. let (u, k) = total s l in absurd (both_ways (m.step s u) (f u (law.steps_to s u k)) k)))
      (best μ (m.step s) m.states)

  pub guided : ℕ → ℕ → ℕ
  guided s zero = s
  guided s (suc i) = (choose (guided s i)).0

  module _ (s : ℕ) (here : s < m.states) where
    pub guided_inside : (i : ℕ) → guided s i < m.states
    unfolding guided
    guided_inside zero = here
    guided_inside (suc i) = ((choose (guided s i)).1 (guided_inside i)).0

    pub guided_walk : Walk m s (guided s)
    unfolding guided
    guided_walk = record { start = refl; along = λ i. ((choose (guided s i)).1 (guided_inside i)).1 }

    pub guided_least : (i t : ℕ) → t < m.states → m.step (guided s i) t ≡ true → μ (guided s (suc i)) ≤ μ t
    unfolding guided
    guided_least i t q h = ((choose (guided s i)).1 (guided_inside i)).2 t q h

    pub guided_round : (p : ℕ) × (d : ℕ) × ((j : ℕ) → p ≤ j → guided s (suc d + j) ≡ guided s j)
    unfolding guided
    guided_round = go (alike m.states (guided s) (λ i h. guided_inside i))
      where
        go : (p : ℕ) × (q : ℕ) × (p < q) × (q < suc m.states) × (guided s p ≡ guided s q) → (p : ℕ) × (d : ℕ) × ((j : ℕ) → p ≤ j → guided s (suc d + j) ≡ guided s j)
        go (p, q, l, k, e) = (
          p,
          q - suc p,
          le_ind (λ j. guided s (suc (q - suc p) + j) ≡ guided s j)
              (let z : suc (q - suc p) + p ≡ q = omega arith in rw z (sym e)) (λ j h ih. rw add-suc (ap (λ x. (choose x).0) ih)),
        )
