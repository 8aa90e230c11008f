-- What a whole text gives.
use Rattle.std.specs.Prelude.{ℕ, List, Ok, Err, Result}
use Rattle.text.specs.declared.fault.ReadFault.{ReadFault}
use Rattle.text.specs.declared.script.Body.{Body}
use Rattle.text.specs.declared.script.Script.{Script}
use Rattle.text.specs.declared.script.Source.{Source}
use Rattle.text.specs.Reads.{Got, and_then}
use Rattle.text.specs.Lines.{Said, nothing, scale_at, source_at, lines_at}

-- a scale's levels, a model, and what the lines after it say
pub record Told : Type 0 where
  pub levels : ℕ
  pub source : Source
  pub said : Said

-- a table has at most 1,024 steps, 1,024 holdings and 8 asks, one to a line, so 2,056 lines can be read
abbrev pub script_at : List ℕ → Got Told
script_at bs =
    and_then (scale_at bs) (λ d b1.
    and_then (source_at b1) (λ m b2.
    and_then (lines_at m 2057 nothing b2) (λ h left. Ok (record { levels = d; source = m; said = h }, left))))

abbrev pub said_in : Body → Said
said_in b = record { steps = b.steps.items; holdings = b.holdings.items; rows = b.rows.items; asks = b.asks.items }

abbrev pub told_in : Script → Told
told_in s = record { levels = s.levels; source = s.source; said = said_in s.body }

-- the script that was read, or the fault
abbrev pub script_read : Result Script ReadFault → Result Told ReadFault
script_read (Ok s) = Ok (told_in s)
script_read (Err e) = Err e

abbrev pub answer_of : {T : Type 0} → Got T → Result T ReadFault
answer_of (Ok p) = Ok p.0
answer_of (Err e) = Err e
