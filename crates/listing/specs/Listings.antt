-- What the listing call gives for a text.
use Rattle.std.specs.Prelude.{ℕ, cond, List, ◌++◌, length, drop, Some, None, Ok, Err, Option, Result, nat_lt}
use Rattle.text.specs.declared.fault.ReadFault.{ReadFault}
use Rattle.text.specs.declared.script.Script.{Script}
use Rattle.text.specs.Scripts.{Told, told_in, script_at, answer_of}
use Rattle.listing.specs.declared.answers.Answer.{Answer}
use Rattle.listing.specs.declared.answers.Answers.{Answers}
use Rattle.listing.specs.Faults.{Telling, telling, placed, told}
use Rattle.listing.specs.Runs.{then, answers_of}
use Rattle.listing.specs.Writing.{degree_lines, fault_line}
use Rattle.listing.specs.declared.fault.TextFault.{TextFault}

-- a scale's levels, and the answers on that scale
pub record Given : Type 0 where
  pub levels : ℕ
  pub list : List Answer

abbrev pub given_in : Result Answers TextFault → Result Given Telling
given_in (Ok a) = Ok (record { levels = a.levels; list = a.list.items })
given_in (Err e) = Err (told e)

abbrev pub script_in : Result Script TextFault → Result Told Telling
script_in (Ok s) = Ok (told_in s)
script_in (Err e) = Err (told e)

-- what reading comes to
abbrev pub script_of : List ℕ → Result Told ReadFault → Result Told Telling
script_of text (Ok t) = Ok t
script_of text (Err e) = Err (placed text e)

-- the answers to a text, or the fault: a text above 16,384 bytes, then the reader's, then the model's and the sheet's
abbrev pub answers_to : List ℕ → Result Given Telling
answers_to text =
    cond (nat_lt 16384 (length text)) (Err (telling 14 1 1 0))
    (then (script_of text (answer_of (script_at text))) (λ t. then (answers_of t) (λ l. Ok (record { levels = t.levels; list = l }))))

-- the bytes, and the refusal's number
abbrev pub lines_of : Result Given Telling → List ℕ × ℕ
lines_of (Ok a) = (degree_lines a.levels 0 a.list, 0)
lines_of (Err t) = (fault_line t, t.number)

-- the number of a fault, or 0
abbrev pub number_in : Option TextFault → ℕ
number_in None = 0
number_in (Some e) = (told e).number

-- the call on a text and a buffer: bytes written, the refusal's number or 0, and what the buffer then holds
abbrev pub listing : List ℕ → List ℕ → ℕ × ℕ × List ℕ
listing text buffer =
    cond (nat_lt (length buffer) 256) (0, 18, buffer)
    (length (lines_of (answers_to text)).0, (lines_of (answers_to text)).1, (lines_of (answers_to text)).0 ++ drop (length (lines_of (answers_to text)).0) buffer)
