-- What a sheet and its two buffers have come through since the opening, the formulas of its rows, and the two laws.
use Rattle.std.specs.Prelude.{◌≡◌, ℕ, ◌*◌, ◌<◌, ◌≤◌, ◌↔◌, List, [], ◌∷◌, ◌++◌, length, take, Ok, Err, Result, slice_index_or}
use Rattle.logic.specs.Formulas.{Formula, Truth, unused, kind_of as kind_of_unary, kind_of_binary}
use Rattle.logic.specs.Formulas.Formula.{unary, binary}
use Rattle.logic.specs.Formulas.Unary.{X, F, G}
use Rattle.logic.specs.Formulas.Binary.{U, W}
use Rattle.logic.specs.Kinds.{Kind, reach}
use Rattle.logic.specs.Kinds.Kind.{prop, or, and, neg, imp, path}
use Rattle.logic.specs.Walks.{Walk}
use Rattle.logic.specs.Walks.Operator.{next, finally, globally, until, weak}
use Rattle.model.specs.Faults.{Refusal, refusal}
use Rattle.model.specs.Meaning.{Meaning, Lawful}
use Rattle.scale.specs.Grades.{Grades, Lawful as Orderly}
use Rattle.sheet.specs.Calls.{open_answer, enter_answer, enter_leaves, degree_answer, cleared}
use Rattle.sheet.specs.Kinds.{kind_of}
use Rattle.sheet.specs.States.{State}
use Rattle.sheet.specs.Walking.{Walks, Wanted, Granted}
use Rattle.sheet.specs.declared.row.Row.{Row}

-- the formula of a kind over the formulas of its operands
abbrev pub formula_by : Kind → Formula → Formula → Formula
formula_by (prop p) f h = Formula.prop p
formula_by or f h = binary Rattle.logic.specs.Formulas.Binary.or f h
formula_by and f h = binary Rattle.logic.specs.Formulas.Binary.and f h
formula_by neg f h = unary Rattle.logic.specs.Formulas.Unary.neg f
formula_by imp f h = binary Rattle.logic.specs.Formulas.Binary.imp f h
formula_by (path q next) f h = unary (X q) f
formula_by (path q finally) f h = unary (F q) f
formula_by (path q globally) f h = unary (G q) f
formula_by (path q until) f h = binary (U q) f h
formula_by (path q weak) f h = binary (W q) f h

-- the formula of row r, of the rows' formulas by number
abbrev pub formula_at : List Formula → ℕ → Formula
formula_at fs r = slice_index_or fs r (Formula.prop 0)

-- the formula of a row, operand rows replaced by their formulas
abbrev pub formula_of : List Formula → Row → Formula
formula_of fs x = formula_by (kind_of x.kind x.a) (formula_at fs x.a) (formula_at fs x.b)

-- the formulas by number, once `enter` has returned n for f
abbrev pub standing : List Formula → ℕ → Formula → List Formula
standing fs n f = take n fs ++ (f ∷ [])

-- the sheet and its buffers came to this by calls since the opening over m and g, and its rows stand for these formulas
pub data History (m : Meaning) (g : Grades) : State → List Formula → Type 0 where
  opened : {s : State} (rs : List Row) (bs : List ℕ) → Ok s ≡ open_answer m g rs bs → History m g s []
  entered : {s t : State} {fs : List Formula} (x : Row) (n : ℕ) → History m g s fs → Ok n ≡ enter_answer m g s x → t ≡ enter_leaves m g s x → History m g t (standing fs n (formula_of fs x))
  refused : {s t : State} {fs : List Formula} (x : Row) (e : Refusal) → History m g s fs → Err e ≡ enter_answer m g s x → t ≡ enter_leaves m g s x → History m g t fs
  asked : {s : State} {fs : List Formula} (r k : ℕ) (answer : Result ℕ Refusal) → History m g s fs → answer ≡ degree_answer s r k → History m g s fs
  walked : {s : State} {fs : List Formula} (r k l : ℕ) (ys xs : List ℕ) (answer : Result (ℕ × ℕ) Refusal) → History m g s fs → Walks m g s r k l ys xs answer → History m g s fs
  forgot : {s t : State} {fs : List Formula} → History m g s fs → t ≡ cleared s → History m g t []

-- the law of degree: at any row and state, the answer is the truth value that the endless walks give the row's formula
abbrev pub DegreeIsTrue : State → ℕ → ℕ → Result ℕ Refusal → Type 0
DegreeIsTrue s r k answer =
    (m : Meaning) → Lawful m → (g : Grades) → Orderly g → (fs : List Formula) → History m g s fs → r < length fs → k < m.states →
    (d : ℕ → ℕ) × Truth m g (formula_at fs r) d × (answer ≡ Ok (d k))

-- the formula begins with X, F, G, U or W under a quantifier
abbrev pub AsksWalks : Formula → Type 0
AsksWalks (Formula.prop p) = ⊥
AsksWalks (unary Rattle.logic.specs.Formulas.Unary.neg f) = ⊥
AsksWalks (unary (X q) f) = Unit {0}
AsksWalks (unary (F q) f) = Unit {0}
AsksWalks (unary (G q) f) = Unit {0}
AsksWalks (binary Rattle.logic.specs.Formulas.Binary.or f h) = ⊥
AsksWalks (binary Rattle.logic.specs.Formulas.Binary.and f h) = ⊥
AsksWalks (binary Rattle.logic.specs.Formulas.Binary.imp f h) = ⊥
AsksWalks (binary (U q) f h) = Unit {0}
AsksWalks (binary (W q) f h) = Unit {0}

-- a walk does what the formula asks of one at level l, by the truth values of its operands: under E it meets the level,
-- under A it breaks it
abbrev pub Does : Meaning → Grades → Formula → ℕ → (ℕ → ℕ) → Type 0
Does m g (Formula.prop p) l π = ⊥
Does m g (unary k f) l π = (a : ℕ → ℕ) × Truth m g f a × Wanted (kind_of_unary k) (g.reading l) (reach a l) (reach unused l) π
Does m g (binary k f h) l π = (a : ℕ → ℕ) × (b : ℕ → ℕ) × Truth m g f a × Truth m g h b × Wanted (kind_of_binary k) (g.reading l) (reach a l) (reach b l) π

-- some endless walk from k does it
abbrev pub SomeWalkDoes : Meaning → Grades → Formula → ℕ → ℕ → Type 0
SomeWalkDoes m g f l k = (π : ℕ → ℕ) × Walk m k π × Does m g f l π

pub record TrueWalk (m : Meaning) (g : Grades) (f : Formula) (l k : ℕ) (ys xs : List ℕ) (answer : Result (ℕ × ℕ) Refusal) : Type 0 where
  -- a walk is granted exactly when there is one
  pub granted : SomeWalkDoes m g f l k ↔ ((p : ℕ) × (d : ℕ) × (answer ≡ Ok (p, d)))
  -- the one granted is one
  pub shown : (p d : ℕ) → answer ≡ Ok (p, d) → Granted m (Does m g f l) k ys xs p d
  -- any other request is refused with 13, and nothing is written
  pub denied : ¬ SomeWalkDoes m g f l k → (answer ≡ Err (refusal 13 0)) × (xs ≡ ys)

-- the law of walk: a lawful request is granted exactly when there is such a walk, with such a walk, and else refused with 13
abbrev pub WalkIsTrue : State → ℕ → ℕ → ℕ → List ℕ → List ℕ → Result (ℕ × ℕ) Refusal → Meaning → Grades → Type 0
WalkIsTrue s r k l ys xs answer m g =
    (fs : List Formula) → History m g s fs → r < length fs → AsksWalks (formula_at fs r) → k < m.states → 1 ≤ l → l ≤ g.levels → 2 * m.states ≤ length ys →
    TrueWalk m g (formula_at fs r) l k ys xs answer
