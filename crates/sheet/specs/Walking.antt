-- What the call `walk` answers, and what it leaves of the walk buffer.
use Rattle.std.specs.Prelude.{◌≡◌, ℕ, ◌*◌, cond, not, ◌||◌, List, length, Some, None, Ok, Err, Option, Result, ◌==◌, nat_le, nat_lt, slice_index_or}
use Rattle.engine.specs.Lassos.{endless, Written}
use Rattle.logic.specs.Kinds.{Kind, reach}
use Rattle.logic.specs.Kinds.Kind.{prop, or, and, neg, imp, path}
use Rattle.logic.specs.Sets.{Set}
use Rattle.logic.specs.Walks.{Walk, Meets}
use Rattle.logic.specs.Walks.Quantifier.{some_walk, every_walk}
use Rattle.model.specs.Faults.{Refusal, refusal}
use Rattle.model.specs.Meaning.{Meaning}
use Rattle.model.specs.Walkable.{walkability}
use Rattle.scale.specs.Grades.{Grades}
use Rattle.scale.specs.declared.reading.Reading.{Reading}
use Rattle.sheet.specs.Calls.{refuse_if, and_then, fitting, readable, first_of, second_of}
use Rattle.sheet.specs.Kinds.{operands_of, kind_of}
use Rattle.sheet.specs.States.{State}
use Rattle.sheet.specs.declared.row.Row.{Row}

-- the record of a row; one that is not there is of no kind
abbrev pub record_of : State → ℕ → Row
record_of s r = slice_index_or s.records r (record { kind = 0; a = 0; b = 0 })

-- `walk` checks in this order, after the model and the scale: the row and the state are there
abbrev pub present : State → ℕ → ℕ → Result Unit Refusal
present s r k = refuse_if (nat_le s.count r || nat_le s.states k) (refusal 8 0)

-- the buffers are long enough for the rows that there are
abbrev pub roomy_now : State → Result Unit Refusal
roomy_now s = refuse_if (nat_lt (length s.records) s.count || nat_lt (length s.degrees) (s.count * s.states)) (refusal 4 0)

-- the recorded kind asks for walks
abbrev pub asks_walks : Row → Result Unit Refusal
asks_walks x = refuse_if (nat_lt x.kind 6 || nat_lt 15 x.kind) (refusal 11 0)

-- the three checks of the request
abbrev pub asking : State → ℕ → ℕ → Result Unit Refusal
asking s r k = and_then (present s r k) (and_then (roomy_now s) (asks_walks (record_of s r)))

-- the recorded operands are earlier rows, and an unused one is 0
abbrev pub recorded : ℕ → Row → Result Unit Refusal
recorded r x = refuse_if (nat_le r x.a || cond (operands_of x.kind == 2) (nat_le r x.b) (not (x.b == 0))) (refusal 9 0)

-- and their bytes are degrees
abbrev pub operands_now : State → ℕ → Row → Result Unit Refusal
operands_now s r x = and_then (recorded r x) (readable s x)

-- the level is on the scale, and the walk buffer has room for 2 × N numbers
abbrev pub on_scale : State → ℕ → Result Unit Refusal
on_scale s l = refuse_if (nat_lt l 1 || nat_lt s.levels l) (refusal 10 0)

abbrev pub room_to_walk : State → ℕ → Result Unit Refusal
room_to_walk s n = refuse_if (nat_lt n (2 * s.states)) (refusal 12 0)

abbrev pub leveled : State → ℕ → ℕ → Result Unit Refusal
leveled s l n = and_then (on_scale s l) (room_to_walk s n)

-- all of them, for a row r, a state k, a level l and a walk buffer of n numbers
abbrev pub walking : Meaning → Grades → State → ℕ → ℕ → ℕ → ℕ → Result Unit Refusal
walking m g s r k l n =
    and_then (fitting s m g) (and_then (walkability m) (and_then (asking s r k) (and_then (operands_now s r (record_of s r)) (leveled s l n))))

-- what a row's walk is to do at a level: to meet it under E, to break it under A
abbrev pub Wanted : Kind → Option Reading → Set → Set → (ℕ → ℕ) → Type 0
Wanted (prop p) r left right π = ⊥
Wanted or r left right π = ⊥
Wanted and r left right π = ⊥
Wanted neg r left right π = ⊥
Wanted imp r left right π = ⊥
Wanted (path some_walk op) r left right π = Meets op r left right π
Wanted (path every_walk op) r left right π = ¬ Meets op r left right π

-- the same of a recorded row, judged by its operands' bytes
abbrev pub WantedBy : Grades → State → Row → ℕ → (ℕ → ℕ) → Type 0
WantedBy g s x l π = Wanted (kind_of x.kind x.a) (g.reading l) (reach (first_of s x) l) (reach (second_of s x) l) π

-- a walk from k is granted that does it, written as a stem of p states and a loop of d, over what ys held
pub record Granted (m : Meaning) (W : (ℕ → ℕ) → Type 0) (k : ℕ) (ys xs : List ℕ) (p d : ℕ) : Type 0 where
  pub written : Written m.states ys xs p d
  pub walk : Walk m k (endless xs p d)
  pub does : W (endless xs p d)

-- no walk from k does it, and nothing was written
pub record Denied (m : Meaning) (W : (ℕ → ℕ) → Type 0) (k : ℕ) (ys xs : List ℕ) (e : Refusal) : Type 0 where
  pub number : e ≡ refusal 13 0
  pub none : (π : ℕ → ℕ) → Walk m k π → ¬ W π
  pub same : xs ≡ ys

-- a search: a walk that does it, or that there is none
abbrev pub Seeks : Meaning → ((ℕ → ℕ) → Type 0) → ℕ → List ℕ → List ℕ → Option (ℕ × ℕ) → Type 0
Seeks m W k ys xs (Some r) = Granted m W k ys xs r.0 r.1
Seeks m W k ys xs None = ((π : ℕ → ℕ) → Walk m k π → ¬ W π) × (xs ≡ ys)

abbrev pub Sought : Meaning → ((ℕ → ℕ) → Type 0) → ℕ → List ℕ → List ℕ → Result (ℕ × ℕ) Refusal → Type 0
Sought m W k ys xs (Ok r) = Granted m W k ys xs r.0 r.1
Sought m W k ys xs (Err e) = Denied m W k ys xs e

abbrev pub WalksAfter : Result Unit Refusal → Meaning → ((ℕ → ℕ) → Type 0) → ℕ → List ℕ → List ℕ → Result (ℕ × ℕ) Refusal → Type 0
WalksAfter (Ok u) m W k ys xs answer = Sought m W k ys xs answer
WalksAfter (Err e) m W k ys xs answer = (answer ≡ Err e) × (xs ≡ ys)

-- `walk` at the state s for the row r, the state k and the level l, with a walk buffer that holds ys, answers so and leaves xs
abbrev pub Walks : Meaning → Grades → State → ℕ → ℕ → ℕ → List ℕ → List ℕ → Result (ℕ × ℕ) Refusal → Type 0
Walks m g s r k l ys xs answer = WalksAfter (walking m g s r k l (length ys)) m (WantedBy g s (record_of s r) l) k ys xs answer
