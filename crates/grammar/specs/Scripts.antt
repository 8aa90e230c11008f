-- What a text can say: a scale, a model, the lines of a table, and formulas asked of states.
use Rattle.std.specs.Prelude.{ℕ, ◌+◌, ◌-◌, min, max, List, [], ◌∷◌, ◌++◌, length}
use Rattle.logic.specs.Formulas.{Formula, Unary, Binary}
use Rattle.logic.specs.Formulas.Formula.{prop, unary, binary}
use Rattle.logic.specs.Formulas.Unary.{neg, X, F, G}
use Rattle.logic.specs.Formulas.Binary.{or, and, imp, U, W}
use Rattle.logic.specs.Walks.{Quantifier}
use Rattle.logic.specs.Walks.Quantifier.{some_walk, every_walk}
use Rattle.model.specs.declared.table.Step.{Step}
use Rattle.model.specs.declared.table.Holding.{Holding}
use Rattle.sheet.specs.declared.row.Row.{Row}
use Rattle.text.specs.declared.script.Source.{Source}
use Rattle.text.specs.Formulas.{row_for}
use Rattle.text.specs.Lines.{Said, with_ask}
use Rattle.text.specs.Scripts.{Told}

-- a step from a state to a state, or a proposition that holds in a state
pub data Line : Type 0 where
  step : ℕ → ℕ → Line
  holds : ℕ → ℕ → Line

-- a formula asked of a state
pub record Question : Type 0 where
  pub state : ℕ
  pub formula : Formula

pub record Script : Type 0 where
  pub levels : ℕ
  pub source : Source
  pub lines : List Line
  pub asks : List Question

-- the number of each kind
abbrev pub under : Quantifier → ℕ → ℕ → ℕ
under some_walk e a = e
under every_walk e a = a

abbrev pub number_of : Unary → ℕ
number_of neg = 4
number_of (X q) = under q 6 11
number_of (F q) = under q 7 12
number_of (G q) = under q 8 13

abbrev pub number_of_binary : Binary → ℕ
number_of_binary or = 2
number_of_binary and = 3
number_of_binary imp = 5
number_of_binary (U q) = under q 9 14
number_of_binary (W q) = under q 10 15

-- how many brackets a formula has, and how many are open at once
abbrev pub size : Formula → ℕ
size (prop i) = 1
size (unary k f) = size f + 1
size (binary k f h) = size f + size h + 1

abbrev pub depth : Formula → ℕ
depth (prop i) = 1
depth (unary k f) = depth f + 1
depth (binary k f h) = max (depth f) (depth h) + 1

-- the rows with those of a formula added, each after its operands, the left before the right
abbrev pub entered : List Row → Formula → List Row
entered rows (prop i) = rows ++ (row_for 1 (min i 255) 0 ∷ [])
entered rows (unary k f) = entered rows f ++ (row_for (number_of k) (length (entered rows f) - 1) 0 ∷ [])
entered rows (binary k f h) =
    entered (entered rows f) h ++ (row_for (number_of_binary k) (length (entered rows f) - 1) (length (entered (entered rows f) h) - 1) ∷ [])

abbrev pub steps_of : List Line → List Step
steps_of [] = []
steps_of (step s t ∷ ls) = record { from = s; to = t } ∷ steps_of ls
steps_of (holds p s ∷ ls) = steps_of ls

abbrev pub holdings_of : List Line → List Holding
holdings_of [] = []
holdings_of (step s t ∷ ls) = holdings_of ls
holdings_of (holds p s ∷ ls) = record { prop = p; state = s } ∷ holdings_of ls

-- one ask after another: its rows, and then the ask
abbrev pub asked : Said → List Question → Said
asked h [] = h
asked h (q ∷ qs) = asked (with_ask h q.state (entered h.rows q.formula)) qs

-- what the reader keeps of a script
abbrev pub told : Script → Told
told s =
    record { levels = s.levels; source = s.source; said = asked (record { steps = steps_of s.lines; holdings = holdings_of s.lines; rows = []; asks = [] }) s.asks }
