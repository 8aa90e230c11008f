-- What each refusal of the listing call tells: its number, its place, and the value that it names, else 0.
use Rattle.std.specs.Prelude.{ℕ, cond, List, codes, nat_le}
use Rattle.model.specs.Faults.{Refusal}
use Rattle.sheet.specs.Faults.{told as told_of_sheet}
use Rattle.text.specs.declared.fault.ReadFault.{ReadFault}
use Rattle.text.specs.declared.fault.ReadFault.TheVariants as read
use Rattle.listing.specs.declared.fault.TextFault.{TextFault}
use Rattle.listing.specs.declared.fault.TextFault.TheVariants.{Buffer, Long, Form, Range, Many, Sheet}
use Rattle.listing.specs.Places.{place_of}

pub record Telling : Type 0 where
  pub number : ℕ
  pub line : ℕ
  pub column : ℕ
  pub value : ℕ

abbrev pub telling : ℕ → ℕ → ℕ → ℕ → Telling
telling n l c v = record { number = n; line = l; column = c; value = v }

-- a refusal of the sheet at a line, whole: its number and its value
abbrev pub at_line : ℕ → Refusal → Telling
at_line line e = telling e.number line 1 e.value

abbrev pub told : TextFault → Telling
told Buffer = telling 18 1 1 0
told Long = telling 14 1 1 0
told (Form p) = telling 15 p.line p.column 0
told (Range p) = telling 16 p.line p.column 0
told (Many p) = telling 17 p.line p.column 0
told (Sheet line e) = at_line line (told_of_sheet e)

-- who refuses: the model 1 and 2, the sheet up to 13, the text from 14 on
abbrev pub who : ℕ → List ℕ
who n = cond (nat_le n 2) (codes "model") (cond (nat_le n 13) (codes "sheet") (codes "text"))

-- what a reader's fault tells of a text
abbrev pub placed : List ℕ → ReadFault → Telling
placed text (read.Form k) = telling 15 (place_of text k).0 (place_of text k).1 0
placed text (read.Range k) = telling 16 (place_of text k).0 (place_of text k).1 0
placed text (read.Many k) = telling 17 (place_of text k).0 (place_of text k).1 0
