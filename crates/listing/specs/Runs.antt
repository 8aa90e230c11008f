-- What a script comes to: the sheet is opened, and ask by ask the rows are entered and the degree is read.
use Rattle.std.specs.Prelude.{ℕ, ◌+◌, cond, List, [], ◌∷◌, ◌++◌, length, replicate, Ok, Err, Result, ◌==◌}
use Rattle.std.specs.List.{between}
use Rattle.model.specs.Faults.{Refusal}
use Rattle.model.specs.Meaning.{Meaning}
use Rattle.model.specs.Pools.{pooled}
use Rattle.model.specs.Tables.{listed}
use Rattle.scale.specs.Grades.{Grades, boolean, five_valued}
use Rattle.sheet.specs.Calls.{open_answer, enter_answer, enter_leaves, degree_answer}
use Rattle.sheet.specs.States.{State}
use Rattle.sheet.specs.declared.row.Row.{Row}
use Rattle.text.specs.declared.script.Ask.{Ask}
use Rattle.text.specs.declared.script.Source.{Source}
use Rattle.text.specs.declared.script.Source.TheVariants.{Table, Pool}
use Rattle.text.specs.Formulas.{row_for}
use Rattle.text.specs.Lines.{Said}
use Rattle.text.specs.Scripts.{Told}
use Rattle.listing.specs.declared.answers.Answer.{Answer}
use Rattle.listing.specs.Faults.{Telling, at_line}

-- one answer after another, unless it is a refusal
abbrev pub then : {X Y E : Type 0} → Result X E → (X → Result Y E) → Result Y E
then (Ok x) f = f x
then (Err e) f = Err e

-- an answer of the sheet, with the line to which a refusal belongs
abbrev pub told_at : {X : Type 0} → ℕ → Result X Refusal → Result X Telling
told_at line (Ok x) = Ok x
told_at line (Err e) = Err (at_line line e)

module _ (m : Meaning) (g : Grades) where
  -- rows entered one after another
  abbrev pub enter_all : State → List Row → Result State Refusal
  enter_all s [] = Ok s
  enter_all s (x ∷ xs) = then (enter_answer m g s x) (λ _. enter_all (enter_leaves m g s x) xs)

  -- an ask, with the rows that it adds: what the sheet then is, and the answer
  abbrev pub ask_one : State → List Row → Ask → Result (State × Answer) Refusal
  ask_one s xs a = then (enter_all s xs) (λ t. then (degree_answer t a.row a.state) (λ d. Ok (t, record { state = a.state; degree = d })))

  -- the asks from a line on, after so many rows have been entered and these answers given
  abbrev pub ask_from : List Row → State → ℕ → ℕ → List Answer → List Ask → Result (List Answer) Telling
  ask_from rows s entered line done [] = Ok done
  ask_from rows s entered line done (a ∷ more) =
      then (told_at line (ask_one s (between entered (a.row + 1) rows) a)) (λ p. ask_from rows p.0 (a.row + 1) (line + 1) (done ++ (p.1 ∷ [])) more)

  -- all asks, on a sheet without rows; their lines follow those of the scale, the model, the steps and the holdings
  abbrev pub asks_on : Said → State → Result (List Answer) Telling
  asks_on h s = ask_from h.rows s 0 (3 + length h.steps + length h.holdings) [] h.asks

  -- the sheet's buffers: 32 records and 32 × 512 bytes
  abbrev pub ask_all : Said → Result (List Answer) Telling
  ask_all h = then (told_at 2 (open_answer m g (replicate 32 (row_for 0 0 0)) (replicate 16384 0))) (asks_on h)

abbrev pub meaning_of : Source → Said → Meaning
meaning_of (Table n p) h = listed n p h.steps h.holdings
meaning_of (Pool k g) h = pooled k g

abbrev pub grades_of : ℕ → Grades
grades_of levels = cond (levels == 1) boolean five_valued

-- the answers to the asks of a script
abbrev pub answers_of : Told → Result (List Answer) Telling
answers_of t = ask_all (meaning_of t.source t.said) (grades_of t.levels) t.said
