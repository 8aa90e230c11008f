-- What each fault of the sheet tells: its number, and the value that it names, else 0.
use Rattle.std.specs.Prelude.{Ok, Err, Result}
use Rattle.model.specs.Faults.{Refusal, refusal, told as told_of_model}
use Rattle.sheet.specs.declared.fault.SheetFault.{SheetFault}
use Rattle.sheet.specs.declared.fault.SheetFault.TheVariants.{Model, Differs, Short, Kind, Prop, Operand, NoRow, Byte, Level, NoPath, WalkShort, NoWalk}

abbrev pub told : SheetFault → Refusal
told (Model e) = told_of_model e
told Differs = refusal 3 0
told Short = refusal 4 0
told Kind = refusal 5 0
told Prop = refusal 6 0
told Operand = refusal 7 0
told NoRow = refusal 8 0
told Byte = refusal 9 0
told Level = refusal 10 0
told NoPath = refusal 11 0
told WalkShort = refusal 12 0
told NoWalk = refusal 13 0

-- an answer, with the refusal that its fault tells
abbrev pub answer : {X : Type 0} → Result X SheetFault → Result X Refusal
answer (Ok x) = Ok x
answer (Err e) = Err (told e)
