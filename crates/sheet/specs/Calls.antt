-- What each call of the sheet answers, and what it leaves.
use Rattle.std.specs.Prelude.{ℕ, zero, suc, ◌+◌, ◌*◌, Bool, cond, not, ◌&&◌, ◌||◌, leb, List, length, Ok, Err, Result, ◌==◌, nat_le, nat_lt, slice_index, slice_set}
use Rattle.model.specs.Below.{every}
use Rattle.model.specs.Faults.{Refusal, refusal}
use Rattle.model.specs.Meaning.{Meaning}
use Rattle.model.specs.Walkable.{walkability}
use Rattle.scale.specs.Grades.{Grades}
use Rattle.logic.specs.Formulas.{unused}
use Rattle.logic.specs.Satisfaction.{sat, row_degree}
use Rattle.logic.specs.Sets.{Set}
use Rattle.sheet.specs.Kinds.{operands_of, kind_of}
use Rattle.sheet.specs.States.{State}
use Rattle.sheet.specs.declared.row.Row.{Row}

-- a check: refused where the test holds
abbrev pub refuse_if : Bool → Refusal → Result Unit Refusal
refuse_if b e = cond b (Err e) (Ok tt)

-- the second answer, unless the first is a refusal
abbrev pub and_then : {X : Type 0} → Result Unit Refusal → Result X Refusal → Result X Refusal
and_then (Ok x) r = r
and_then (Err e) r = Err e

-- `open` over m and g, beside buffers that hold rs and bs
abbrev pub open_answer : Meaning → Grades → List Row → List ℕ → Result State Refusal
open_answer m g rs bs =
    and_then (walkability m)
    (Ok (record { states = m.states; props = m.props; levels = g.levels; count = 0; records = rs; degrees = bs }))

-- the byte of a row at a state
abbrev pub byte_at : State → ℕ → ℕ → ℕ
byte_at s r k = slice_index s.degrees (r * s.states + k)

-- `degree` at a row and a state
abbrev pub degree_answer : State → ℕ → ℕ → Result ℕ Refusal
degree_answer s r k =
    and_then (refuse_if (nat_le s.count r || nat_le s.states k) (refusal 8 0))
    (and_then (refuse_if (nat_lt (length s.degrees) (s.count * s.states)) (refusal 4 0))
    (and_then (refuse_if (nat_lt s.levels (byte_at s r k)) (refusal 9 0)) (Ok (byte_at s r k))))

-- what `clear` leaves
abbrev pub cleared : State → State
cleared s = record { states = s.states; props = s.props; levels = s.levels; count = 0; records = s.records; degrees = s.degrees }

-- `enter` checks in this order: the model and the scale are of the sheet's size
abbrev pub fitting : State → Meaning → Grades → Result Unit Refusal
fitting s m g = refuse_if (not (m.states == s.states) || not (m.props == s.props) || not (g.levels == s.levels)) (refusal 3 0)

-- there is room for the rows that it has and for one more
abbrev pub roomy : State → Result Unit Refusal
roomy s =
    refuse_if (nat_le 128 s.count || nat_lt (length s.records) (s.count + 1) || nat_lt (length s.degrees) ((s.count + 1) * s.states))
    (refusal 4 0)

-- the row has a kind, its proposition is there, its operands are earlier rows, and an unused one is 0
abbrev pub formed : State → Row → Result Unit Refusal
formed s x =
    and_then (refuse_if (nat_lt x.kind 1 || nat_lt 15 x.kind) (refusal 5 0))
    (and_then (refuse_if (x.kind == 1 && nat_le s.props x.a) (refusal 6 0))
    (refuse_if (not (x.kind == 1) && nat_le s.count x.a || cond (operands_of x.kind == 2) (nat_le s.count x.b) (not (x.b == 0))) (refusal 7 0)))

-- a row's bytes are degrees
abbrev pub sound : State → ℕ → Bool
sound s r = every s.states (λ k. leb (byte_at s r k) s.levels)

-- the bytes of its operands are degrees
abbrev pub readable : State → Row → Result Unit Refusal
readable s x =
    refuse_if (not (x.kind == 1) && not (sound s x.a) || operands_of x.kind == 2 && not (sound s x.b)) (refusal 9 0)

abbrev pub entering : Meaning → Grades → State → Row → Result Unit Refusal
entering m g s x = and_then (fitting s m g) (and_then (walkability m) (and_then (roomy s) (and_then (formed s x) (readable s x))))

-- a row's degrees as its bytes give them, and 0 where there is no state
abbrev pub given : State → ℕ → ℕ → ℕ
given s r k = cond (nat_lt k s.states) (byte_at s r k) 0

-- the degrees of a row's first and second operand; what it has no operand for is not looked at
abbrev pub first_of : State → Row → ℕ → ℕ
first_of s x = cond (x.kind == 1) unused (given s x.a)

abbrev pub second_of : State → Row → ℕ → ℕ
second_of s x = cond (operands_of x.kind == 2) (given s x.b) unused

-- where the row reaches a level, and its degrees, by its operands' degrees
abbrev pub reaches : Meaning → Grades → State → Row → ℕ → Set
reaches m g s x l = sat m g (kind_of x.kind x.a) l (first_of s x) (second_of s x)

abbrev pub degrees_of : Meaning → Grades → State → Row → ℕ → ℕ
degrees_of m g s x = row_degree m g (kind_of x.kind x.a) (first_of s x) (second_of s x)

-- n degrees written from place i on
abbrev pub written : List ℕ → ℕ → ℕ → (ℕ → ℕ) → List ℕ
written bs i zero f = bs
written bs i (suc n) f = slice_set (written bs i n f) (i + n) (f n)

-- the sheet with one row more
abbrev pub with_row : Meaning → Grades → State → Row → State
with_row m g s x =
    record { states = s.states; props = s.props; levels = s.levels; count = s.count + 1; records = slice_set s.records s.count x; degrees = written s.degrees (s.count * s.states) s.states (degrees_of m g s x) }

-- what is left: a refusal changes nothing
abbrev pub leaving : Result Unit Refusal → State → State → State
leaving (Ok u) s t = t
leaving (Err e) s t = s

-- `enter` at the state s: its answer, and what it leaves
abbrev pub enter_answer : Meaning → Grades → State → Row → Result ℕ Refusal
enter_answer m g s x = and_then (entering m g s x) (Ok s.count)

abbrev pub enter_leaves : Meaning → Grades → State → Row → State
enter_leaves m g s x = leaving (entering m g s x) s (with_row m g s x)
