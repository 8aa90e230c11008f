-- Answers of the code, as the definitions of a run have them.
use Rattle.std.specs.Prelude.{List, Ok, Err, Result}
use Rattle.model.specs.Faults.{Refusal}
use Rattle.sheet.specs.Faults.{told as told_of_sheet}
use Rattle.sheet.specs.States.{State, seen}
use Rattle.sheet.specs.declared.fault.SheetFault.{SheetFault}
use Rattle.arrayvec.specs.ArrayVec.{ArrayVec}
use Rattle.listing.specs.declared.answers.Answer.{Answer}
use Rattle.listing.specs.declared.asking.Desk.{Desk}
use Rattle.listing.specs.declared.fault.TextFault.{TextFault}
use Rattle.listing.specs.Faults.{Telling, told}

-- a desk's sheet with its buffers
abbrev pub state : {M S : Type 0} → Desk M S → State
state d = seen d.sheet d.records d.bytes

-- what the sheet then is, unless it refused
abbrev pub entered : {X : Type 0} → Result X SheetFault → State → Result State Refusal
entered (Ok x) s = Ok s
entered (Err e) s = Err (told_of_sheet e)

-- the same beside an answer
abbrev pub asked : Result Answer SheetFault → State → Result (State × Answer) Refusal
asked (Ok x) s = Ok (s, x)
asked (Err e) s = Err (told_of_sheet e)

abbrev pub listed : Result (ArrayVec Answer) TextFault → Result (List Answer) Telling
listed (Ok k) = Ok (k.items)
listed (Err e) = Err (told e)
