-- A search depends on its sets below the count of states only.
use Rattle.std.proofs.Common.{ℕ, suc, Bool, true, false, refl, ◌∙◌}
use Rattle.model.specs.Meaning.{Meaning}
use Rattle.logic.specs.FixedPoints.{lfp, gfp}
use Rattle.logic.specs.Searches.{H, task, found, guide_of, sought, Guides, Joined}
use Rattle.logic.specs.Sets.{Set, empty, full}
use Rattle.logic.specs.Walks.{Operator}
use Rattle.logic.specs.Walks.Operator.{next, finally, globally, until, weak}
use Rattle.engine.proofs.Nesting.{Same, pre_alike}
use Rattle.engine.proofs.Turning.{rounds_alike}

module _ (m : Meaning) (A B C A' B' C' : Set) (a : Same m.states A A') (b : Same m.states B B') (c : Same m.states C C') where
  abbrev n : ℕ
  n = m.states

  abbrev h : Set → Set → Set
  h U V = H m full A B C U V

  abbrev h' : Set → Set → Set
  h' U V = H m full A' B' C' U V

  same_h : (U U' V V' : Set) → Same n U U' → Same n V V' → Same n (h U V) (h' U' V')
  unfolding H
  same_h U U' V V' e f s l = rw (a s l, b s l, c s l, pre_alike m full U U' e s, pre_alike m full V V' f s) refl

  same-least : (V V' : Set) → Same n V V' → Same n (lfp n (λ U. h U V)) (lfp n (λ U. h' U V'))
  same-least V V' f = rounds_alike n (λ U. h U V) (λ U. h' U V') (λ U U' e. same_h U U' V V' e f) empty (suc n)

  same-greatest : (U U' : Set) → Same n U U' → Same n (gfp n (λ V. h U V)) (gfp n (λ V. h' U' V))
  same-greatest U U' e = rounds_alike n (λ V. h U V) (λ V. h' U' V) (λ V V' f. same_h U U' V V' e f) full (suc n)

  pub same_recurring : Same n (gfp n (λ V. lfp n (λ U. h U V))) (gfp n (λ V. lfp n (λ U. h' U V)))
  same_recurring = rounds_alike n (λ V. lfp n (λ U. h U V)) (λ V. lfp n (λ U. h' U V)) same-least full (suc n)

  pub same_settling : Same n (lfp n (λ U. gfp n (λ V. h U V))) (lfp n (λ U. gfp n (λ V. h' U V)))
  same_settling = rounds_alike n (λ U. gfp n (λ V. h U V)) (λ U. gfp n (λ V. h' U V)) same-greatest empty (suc n)

  same_guide : (k : Bool) (U U' : Set) → Same n U U' → Same n (guide_of m (task A B C k) U) (guide_of m (task A' B' C' k) U')
  same_guide true U U' e = same-greatest U U' e
  same_guide false U U' e = same_h U U' _ _ e same_recurring

  pub same-found : (k : Bool) → Same n (found m (task A B C k)) (found m (task A' B' C' k))
  same-found true = same_settling
  same-found false = same_recurring

  pub same-joined : (k : Bool) (ρ : ℕ → ℕ) → Joined n (guide_of m (task A B C k)) ρ → Joined n (guide_of m (task A' B' C' k)) ρ
  same-joined k ρ j s l i q = j s l i q ∙ rounds_alike n (guide_of m (task A B C k)) (guide_of m (task A' B' C' k)) (same_guide k) empty i s l

  pub same-sought : (op : Operator) (k : Bool) → Same n (sought m op (task A B C k)) (sought m op (task A' B' C' k))
  same-sought next k = λ s l. pre_alike m full A A' a s
  same-sought finally k = same-found k
  same-sought globally k = same-found k
  same-sought until k = same-found k
  same-sought weak k = same-found k

  pub same-guides : (op : Operator) (k : Bool) (ρ : ℕ → ℕ) → Guides m op (task A B C k) ρ → Guides m op (task A' B' C' k) ρ
  same-guides next k ρ j = λ s l. j s l ∙ a s l
  same-guides finally k ρ j = same-joined k ρ j
  same-guides globally k ρ j = same-joined k ρ j
  same-guides until k ρ j = same-joined k ρ j
  same-guides weak k ρ j = same-joined k ρ j
