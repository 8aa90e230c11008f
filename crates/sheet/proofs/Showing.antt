-- What a recorded row's walk is to do, by the operands' bytes and by the truth values of its formula.
use Rattle.std.proofs.Common.{◌≡◌, ℕ, ◌<◌, ◌≤◌, Bool, true, false, leb, Some, Option, sym, refl, ap, ◌∙◌, subst, arith}
use Rattle.std.proofs.lemmas.Bool.{both_ways}
use Rattle.logic.specs.Formulas.{Formula, Truth, unused}
use Rattle.logic.specs.Kinds.{reach}
use Rattle.logic.specs.Kinds.Kind.{path}
use Rattle.logic.specs.Satisfaction.{degree}
use Rattle.logic.specs.Sets.{Set, ◌∈◌}
use Rattle.logic.specs.Walks.{Operator, Quantifier}
use Rattle.logic.specs.Walks.Operator.{next, finally, globally, until, weak}
use Rattle.logic.specs.Walks.Quantifier.{some_walk, every_walk}
use Rattle.logic.proofs.Levels.{meets_map, read}
use Rattle.logic.proofs.Values.{degree_is_truth, truth_unique}
use Rattle.model.specs.Meaning.{Meaning, Lawful}
use Rattle.model.specs.Walkable.{Total}
use Rattle.scale.specs.Grades.{Grades, Lawful as Orderly}
use Rattle.scale.specs.declared.reading.Reading.{Reading}
use Rattle.sheet.specs.Histories.{formula_by, AsksWalks, Does}
use Rattle.sheet.specs.Kinds.{kind_of}
use Rattle.sheet.specs.Walking.{Wanted}
use Rattle.sheet.proofs.Resting.{by_kinds}

-- a row whose formula asks for walks is of kind 6 to 15
pub asks_kind : (p k : ℕ) (f h : Formula) → 1 ≤ k → k ≤ 15 → AsksWalks (formula_by (kind_of k p) f h) → 6 ≤ k
asks_kind p k f h low high =
    by_kinds (λ k. AsksWalks (formula_by (kind_of k p) f h) → 6 ≤ k) (λ a. absurd a) (λ a. absurd a) (λ a. absurd a) (λ a. absurd a) (λ a. absurd a)
    (λ a. omega arith) (λ a. omega arith) (λ a. omega arith) (λ a. omega arith) (λ a. omega arith) (λ a. omega arith) (λ a. omega arith) (λ a. omega arith) (λ a. omega arith) (λ a. omega arith)
    k low high

-- a walk does not see more of two sets than its positions
abbrev pub OnPath : Set → Set → (ℕ → ℕ) → Type 0
OnPath L M π = (j : ℕ) → L (π j) ≡ M (π j)

back : (L M : Set) (π : ℕ → ℕ) → OnPath L M π → OnPath M L π
back L M π e j = sym (e j)

moved : (L M : Set) (π : ℕ → ℕ) → OnPath L M π → (j : ℕ) → π j ∈ L → π j ∈ M
moved L M π e j h = sym (e j) ∙ h

pub wanted_same : (q : Quantifier) (op : Operator) (r : Reading) (L R M N : Set) (π : ℕ → ℕ) → OnPath L M π → OnPath R N π → Wanted (path q op) (Some r) L R π → Wanted (path q op) (Some r) M N π
wanted_same some_walk op r L R M N π el er h = meets_map op r r (omega arith) π L M R N (moved L M π el) (moved R N π er) h
wanted_same every_walk op r L R M N π el er h = λ k. h (meets_map op r r (omega arith) π M L N R (moved M L π (back L M π el)) (moved N R π (back R N π er)) k)

-- X, F and G do not look at the right operand
abbrev pub left_only : Operator → Bool
left_only next = true
left_only finally = true
left_only globally = true
left_only until = false
left_only weak = false

wanted_left : (q : Quantifier) (op : Operator) (r : Option Reading) (L R N : Set) (π : ℕ → ℕ) → left_only op ≡ true → Wanted (path q op) r L R π → Wanted (path q op) r L N π
wanted_left some_walk next r L R N π e h = h
wanted_left some_walk finally r L R N π e h = h
wanted_left some_walk globally r L R N π e h = h
wanted_left some_walk until r L R N π e h = absurd (both_ways false refl e)
wanted_left some_walk weak r L R N π e h = absurd (both_ways false refl e)
wanted_left every_walk next r L R N π e h = h
wanted_left every_walk finally r L R N π e h = h
wanted_left every_walk globally r L R N π e h = h
wanted_left every_walk until r L R N π e h = absurd (both_ways false refl e)
wanted_left every_walk weak r L R N π e h = absurd (both_ways false refl e)

module _ (m : Meaning) (law : Lawful m) (total : Total m) (g : Grades) (orderly : Orderly g) (l : ℕ) (some : 1 ≤ l) (most : l ≤ g.levels)
    (π : ℕ → ℕ) (inside : (i : ℕ) → π i < m.states) (q : Quantifier) (f h : Formula) (A B : Set) (left : OnPath A (reach (degree m g f) l) π) where
  -- the degrees are truth values, and there are no others
  truth : (f : Formula) → Truth m g f (degree m g f)
  truth f = degree_is_truth m law total g orderly f

  only : (f : Formula) (a : ℕ → ℕ) → Truth m g f a → OnPath (reach a l) (reach (degree m g f) l) π
  only f a t j = ap (leb l) (truth_unique m law total g orderly f a (degree m g f) t (truth f) (π j) (inside j))

  -- from sets that are those of the truth values along the walk to others that are
  carried : (op : Operator) (L R M N : Set) → OnPath L M π → OnPath R N π → Wanted (path q op) (g.reading l) L R π → Wanted (path q op) (g.reading l) M N π
  carried op L R M N el er h =
      let (r, e) = read g orderly l some most in
      subst (λ o. Wanted (path q op) o M N π) (sym e) (wanted_same q op r L R M N π el er (subst (λ o. Wanted (path q op) o L R π) e h))

  to_left : (op : Operator) → left_only op ≡ true → Wanted (path q op) (g.reading l) A B π → (a : ℕ → ℕ) × Truth m g f a × Wanted (path q op) (g.reading l) (reach a l) (reach unused l) π
  to_left op e w = (degree m g f, truth f, wanted_left q op (g.reading l) (reach (degree m g f) l) B (reach unused l) π e (carried op A B (reach (degree m g f) l) B left (λ j. refl) w))

  from_left : (op : Operator) → left_only op ≡ true → (a : ℕ → ℕ) × Truth m g f a × Wanted (path q op) (g.reading l) (reach a l) (reach unused l) π → Wanted (path q op) (g.reading l) A B π
  from_left op e (a, t, w) =
      wanted_left q op (g.reading l) A (reach unused l) B π e
      (carried op (reach a l) (reach unused l) A (reach unused l) (λ j. only f a t j ∙ sym (left j)) (λ j. refl) w)

  module _ (op : Operator) (right : left_only op ≡ false → OnPath B (reach (degree m g h) l) π) where
    to_both : left_only op ≡ false → Wanted (path q op) (g.reading l) A B π → (a : ℕ → ℕ) × (b : ℕ → ℕ) × Truth m g f a × Truth m g h b × Wanted (path q op) (g.reading l) (reach a l) (reach b l) π
    to_both e w = (degree m g f, degree m g h, truth f, truth h, carried op A B (reach (degree m g f) l) (reach (degree m g h) l) left (right e) w)

    from_both : left_only op ≡ false → (a : ℕ → ℕ) × (b : ℕ → ℕ) × Truth m g f a × Truth m g h b × Wanted (path q op) (g.reading l) (reach a l) (reach b l) π → Wanted (path q op) (g.reading l) A B π
    from_both e (a, b, ta, tb, w) =
        carried op (reach a l) (reach b l) A B (λ j. only f a ta j ∙ sym (left j)) (λ j. only h b tb j ∙ sym (right e j)) w

  -- by the bytes and by the truth values it is the same
  pub to_does : (op : Operator) → (left_only op ≡ false → OnPath B (reach (degree m g h) l) π) → Wanted (path q op) (g.reading l) A B π → Does m g (formula_by (path q op) f h) l π
  to_does next right w = to_left next refl w
  to_does finally right w = to_left finally refl w
  to_does globally right w = to_left globally refl w
  to_does until right w = to_both until right refl w
  to_does weak right w = to_both weak right refl w

  pub from-does : (op : Operator) → (left_only op ≡ false → OnPath B (reach (degree m g h) l) π) → Does m g (formula_by (path q op) f h) l π → Wanted (path q op) (g.reading l) A B π
  from-does next right d = from_left next refl d
  from-does finally right d = from_left finally refl d
  from-does globally right d = from_left globally refl d
  from-does until right d = from_both until right refl d
  from-does weak right d = from_both weak right refl d
