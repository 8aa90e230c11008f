-- Steps into a set, the operators F and G, and their least and greatest fixed points.
use Rattle.std.specs.Prelude.{ℕ, zero, suc, cond, not, ◌&&◌, ◌||◌}
use Rattle.model.specs.Below.{some, every}
use Rattle.model.specs.Meaning.{Meaning}
use Rattle.logic.specs.Sets.{Set, empty, full}
use Rattle.logic.specs.Walks.{Quantifier}
use Rattle.logic.specs.Walks.Quantifier.{some_walk, every_walk}

-- the states whose step is ours to choose: all under E, none under A
abbrev pub choosing : Quantifier → Set
choosing some_walk = full
choosing every_walk = empty

module _ (m : Meaning) (own : Set) where
  -- the states with some step into T where the step is ours to choose, and with all steps into T where it is not
  unfoldable pub pre : Set → Set
  pre T s = cond (own s) (some m.states (λ t. m.step s t && T t)) (every m.states (λ t. not (m.step s t) || T t))

  unfoldable pub F : Set → Set → Set → Set
  F S1 S2 T s = S1 s || S2 s && pre T s

  unfoldable pub G : Set → Set → Set → Set → Set
  G S1 S2 T1 T2 s = S1 s || pre T1 s || S2 s && pre T2 s

-- n rounds of f from T
abbrev pub rounds : (Set → Set) → ℕ → Set → Set
rounds f zero T = T
rounds f (suc n) T = f (rounds f n T)

-- over n states, n + 1 rounds from nothing and from everything are enough
abbrev pub lfp : ℕ → (Set → Set) → Set
lfp n f = rounds f (suc n) empty

abbrev pub gfp : ℕ → (Set → Set) → Set
gfp n f = rounds f (suc n) full
