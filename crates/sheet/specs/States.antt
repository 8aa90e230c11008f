-- A sheet with its two buffers.
use Rattle.std.specs.Prelude.{ℕ, List, Ok, Err, Result}
use Rattle.model.specs.Faults.{Refusal}
use Rattle.sheet.specs.Faults.{told}
use Rattle.sheet.specs.declared.fault.SheetFault.{SheetFault}
use Rattle.sheet.specs.declared.row.Row.{Row}
use Rattle.sheet.specs.declared.sheet.Sheet.{Sheet}

pub record State : Type 0 where
  pub states : ℕ  -- N, P and D of the model and the scale that the sheet was opened over
  pub props : ℕ
  pub levels : ℕ
  pub count : ℕ  -- how many rows it has
  pub records : List Row  -- the buffer of row records
  pub degrees : List ℕ  -- the buffer of degree bytes: row r, state s at r × N + s

abbrev pub seen : Sheet → List Row → List ℕ → State
seen x rs bs = record { states = x.size.states; props = x.size.props; levels = x.levels; count = x.rows; records = rs; degrees = bs }

-- the same of what `open` answers
abbrev pub seen_in : Result Sheet SheetFault → List Row → List ℕ → Result State Refusal
seen_in (Ok x) rs bs = Ok (seen x rs bs)
seen_in (Err e) rs bs = Err (told e)
