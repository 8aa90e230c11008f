-- What a walk that follows a guide does, and so what walks do from a state of a fixed point.
use Rattle.std.proofs.Common.{◌≡◌, ℕ, suc, ◌+◌, ◌<◌, ◌≤◌, false, sym, refl, subst}
use Rattle.std.proofs.lemmas.Bool.{both_ways}
use Rattle.model.specs.Meaning.{Meaning, Lawful}
use Rattle.model.specs.Walkable.{Total}
use Rattle.logic.specs.FixedPoints.{choosing}
use Rattle.logic.specs.Sets.{Set, ◌∈◌, empty, full, complement}
use Rattle.logic.specs.Walks.{Walk, Quantifier, Quantified}
use Rattle.logic.specs.Walks.Quantifier.{some_walk, every_walk}
use Rattle.logic.proofs.Guided.{guided, guided_walk, guided_least, guided_round}
use Rattle.logic.proofs.Joining.{Rule, Guides, reach_in, keep_in, reach-guides, keep-guides}
use Rattle.logic.proofs.Measures.{Steady, Keeps, Recurs, Settles, Follows, keeps, recurs, settles, settles_by}

-- E for A and A for E
abbrev pub other : Quantifier → Quantifier
other some_walk = every_walk
other every_walk = some_walk

-- the other quantifier chooses where this one does not
pub choosing_other : (q : Quantifier) → complement (choosing q) ≡ choosing (other q)
choosing_other some_walk = refl
choosing_other every_walk = refl

pub quantified_map : (q : Quantifier) (m : Meaning) (s : ℕ) (P Q : (ℕ → ℕ) → Type 0) → ((π : ℕ → ℕ) → Walk m s π → P π → Q π) → Quantified q m s P → Quantified q m s Q
quantified_map some_walk m s P Q f (π, w, p) = (π, w, f π w p)
quantified_map every_walk m s P Q f h = λ π w k. h π w (λ p. k (f π w p))

pub inside : (m : Meaning) → Lawful m → (s : ℕ) (π : ℕ → ℕ) → Walk m s π → (i : ℕ) → π i < m.states
inside m law s π w i = law.steps_from (π i) (π (suc i)) (w.along i)

-- a walk from s that follows a guide
module _ (m : Meaning) (law : Lawful m) (own A B C : Set) (μ : ℕ → ℕ) (s : ℕ) (w : Guides m own A B C μ s) (π : ℕ → ℕ) (walk : Walk m s π)
    (follows : Follows m own μ π) where
  starts_at : μ (π 0) < w.guide.top
  starts_at = subst (λ t. μ t < w.guide.top) (sym walk.start) w.starts

  does-keep : Keeps A B C π
  does-keep = keeps m own A B C μ w.guide π (inside m law s π walk) walk.along follows starts_at

  pub does_recur : Keeps A B C π × Recurs A C π
  does_recur = (does-keep, recurs m own A B C μ w.guide π (inside m law s π walk) walk.along follows starts_at)

  module _ (steady : Steady w.guide) where
    does_settle : ¬ (¬ (Keeps A B C π × Settles A C π))
    does_settle never =
        settles m own A B C μ w.guide π (inside m law s π walk) walk.along follows starts_at steady (λ z. never (does-keep, z))

    pub does_settle_by : (p d : ℕ) → ((j : ℕ) → p ≤ j → π (suc d + j) ≡ π j) → Keeps A B C π × Settles A C π
    does_settle_by p d round = (
      does-keep,
      (suc d + p, settles_by m own A B C μ w.guide π (inside m law s π walk) walk.along follows starts_at steady p d round),
    )

module _ (m : Meaning) (law : Lawful m) (total : Total m) (A B C : Set) (s : ℕ) (here : s < m.states) where
  -- under A every walk follows any guide, since no step is ours to choose
  none-ours : (μ π : ℕ → ℕ) → Follows m empty μ π
  none-ours μ π j o t q h = absurd (both_ways false refl o)

  follow : (μ : ℕ → ℕ) → Follows m full μ (guided m law total μ s)
  follow μ j o t q h = guided_least m law total μ s here j t q h

  plays : (q : Quantifier) (μ : ℕ → ℕ) → Guides m (choosing q) A B C μ s → Quantified q m s (λ π. Keeps A B C π × Recurs A C π)
  plays some_walk μ w =
      let π = guided m law total μ s in let walk = guided_walk m law total μ s here in
      (π, walk, does_recur m law full A B C μ s w π walk (follow μ))
  plays every_walk μ w = λ π walk k. k (does_recur m law empty A B C μ s w π walk (none-ours μ π))

  plays_steady : (q : Quantifier) (μ : ℕ → ℕ) (w : Guides m (choosing q) A B C μ s) → Steady w.guide → Quantified q m s (λ π. Keeps A B C π × Settles A C π)
  plays_steady some_walk μ w steady =
      let π = guided m law total μ s in let walk = guided_walk m law total μ s here in
      let (p, d, round) = guided_round m law total μ s here in
      (π, walk, does_settle_by m law full A B C μ s w π walk (follow μ) steady p d round)
  plays_steady every_walk μ w steady = λ π walk. does_settle m law empty A B C μ s w π walk (none-ours μ π) steady

  module _ (q : Quantifier) (op : Set → Set → Set) (rule : Rule m (choosing q) A B C op) where
    pub in_reach : s ∈ reach_in m.states op → Quantified q m s (λ π. Keeps A B C π × Recurs A C π)
    in_reach h = plays q _ (reach-guides m (choosing q) A B C op rule s here h)

    pub in_keep : s ∈ keep_in m.states op → Quantified q m s (λ π. Keeps A B C π × Settles A C π)
    in_keep h = let w = keep-guides m (choosing q) A B C op rule s h in plays_steady q _ w.0 w.1
