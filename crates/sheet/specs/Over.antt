-- A sheet with its degree bytes, and a row over them, as the code holds them.
use Rattle.std.specs.Prelude.{◌≡◌, ℕ, Bool, cond, not, ◌&&◌, ◌||◌, List, Ok, Err, Result, Option, ◌==◌, nat_le}
use Rattle.std.specs.Option.{unwrap_or}
use Rattle.model.specs.Faults.{Refusal}
use Rattle.model.specs.Meaning.{Meaning}
use Rattle.scale.specs.Grades.{Grades}
use Rattle.sheet.specs.Faults.{told}
use Rattle.sheet.specs.Kinds.{operands_of, number_of}
use Rattle.sheet.specs.States.{State, seen}
use Rattle.sheet.specs.declared.fault.SheetFault.{SheetFault}
use Rattle.sheet.specs.declared.kinds.Kind.{Kind}
use Rattle.sheet.specs.declared.row.Row.{Row}
use Rattle.sheet.specs.declared.sheet.Sheet.{Sheet}
use Rattle.sheet.specs.declared.sheet.lent.Lent.{Lent}
use Rattle.sheet.specs.declared.sheet.lent.Known.{Known}

-- the sheet with its buffers, whatever the one of records holds
abbrev pub state_of : Lent → List Row → State
state_of x rs = seen x.sheet.now rs x.bytes.now

-- a row as its buffer holds it; a second operand that it does not have is 0
abbrev pub row_over : Kind → ℕ → Option ℕ → Row
row_over k a b = record { kind = number_of k; a = a; b = unwrap_or b 0 }

abbrev pub row_of : Known → Row
row_of x = row_over x.kind x.a x.b

-- the model and the scale are of the sheet's size
pub record Fits (m : Meaning) (g : Grades) (x : Sheet) : Type 0 where
  pub states : m.states ≡ x.size.states
  pub levels : g.levels ≡ x.levels

-- x is the sheet s with the bytes bs
pub record Lends (x : Lent) (s : Sheet) (bs : List ℕ) : Type 0 where
  pub sheet : x.sheet.now ≡ s
  pub bytes : x.bytes.now ≡ bs

-- x is the row r over them
pub record Stands (x : Known) (s : Sheet) (bs : List ℕ) (r : Row) : Type 0 where
  pub lends : Lends x.lent s bs
  pub row : row_of x ≡ r

-- an operand is no row below n, or an unused one is not 0
abbrev pub misplaced : ℕ → Row → Bool
misplaced n x = not (x.kind == 1) && nat_le n x.a || cond (operands_of x.kind == 2) (nat_le n x.b) (not (x.b == 0))

-- how a check ends, whatever it hands on
abbrev pub outcome : {X : Type 0} → Result X SheetFault → Result Unit Refusal
outcome (Ok x) = Ok tt
outcome (Err e) = Err (told e)
