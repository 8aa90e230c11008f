-- Examples worked out by hand, and what the theorem over them says: of truth values by walks, not of sets.
use Rattle.std.specs.Prelude.{◌≡◌, ℕ, ◌<◌, List, [], ◌∷◌, slice_index_or}
use Rattle.std.specs.List.{AllByRecursion}
use Rattle.model.specs.Meaning.{Meaning}
use Rattle.model.specs.Pairs.{paired}
use Rattle.model.specs.Pools.{pooled}
use Rattle.model.specs.Tables.{listed}
use Rattle.model.specs.declared.table.Holding.{Holding}
use Rattle.model.specs.declared.table.Step.{Step}
use Rattle.scale.specs.Grades.{Grades, boolean, five_valued}
use Rattle.logic.specs.Formulas.{Formula, Truth, unused}
use Rattle.logic.specs.Formulas.Binary.{imp, W}
use Rattle.logic.specs.Formulas.Formula.{prop, unary, binary}
use Rattle.logic.specs.Formulas.Unary.{neg, X, G}
use Rattle.logic.specs.Kinds.{reach}
use Rattle.logic.specs.Walks.{Meets, Quantified}
use Rattle.logic.specs.Walks.Operator.{globally}
use Rattle.logic.specs.Walks.Quantifier.{some_walk, every_walk}
use Rattle.logic.specs.declared.trials.Entry.{Entry}

abbrev step : ℕ → ℕ → Step
step s t = record { from = s; to = t }

abbrev hold : ℕ → ℕ → Holding
hold p s = record { prop = p; state = s }

abbrev pub staying_steps : List Step
staying_steps = step 0 0 ∷ step 0 1 ∷ step 1 2 ∷ step 2 2 ∷ []

abbrev pub staying_holdings : List Holding
staying_holdings = hold 0 0 ∷ hold 0 2 ∷ []

-- three states: the walk may stay in the first and must stay in the last
abbrev pub staying : Meaning
staying = listed 3 1 staying_steps staying_holdings

abbrev pub alternating_steps : List Step
alternating_steps = step 0 1 ∷ step 1 0 ∷ []

abbrev pub alternating_holdings : List Holding
alternating_holdings = hold 0 0 ∷ []

-- two states by turns
abbrev pub alternating : Meaning
alternating = listed 2 1 alternating_steps alternating_holdings

-- one state that steps to itself, and no proposition
abbrev pub still : Meaning
still = listed 1 0 (step 0 0 ∷ []) []

abbrev pub p0 : Formula
p0 = prop 0

abbrev pub AG : Formula → Formula
AG f = unary (G every_walk) f

abbrev pub EG : Formula → Formula
EG f = unary (G some_walk) f

abbrev pub no_torn_frame : Formula
no_torn_frame = AG (unary neg p0)

-- the implication that tells itself apart from "not or"
abbrev pub implied : Formula
implied = binary imp (AG p0) (unary (X some_walk) p0)

pub record Trial : Type 0 where
  pub meaning : Meaning
  pub grades : Grades
  pub formula : Formula

abbrev trial : Meaning → Grades → Formula → Trial
trial m g f = record { meaning = m; grades = g; formula = f }

-- by number from 0
abbrev pub subjects : List Trial
subjects =
    trial staying five_valued (AG p0)
    ∷ trial staying five_valued (EG p0)
    ∷ trial alternating five_valued (AG p0)
    ∷ trial alternating five_valued (unary neg (AG p0))
    ∷ trial alternating five_valued (binary (W every_walk) p0 (AG p0))
    ∷ trial alternating five_valued implied
    ∷ trial alternating boolean implied
    ∷ trial (pooled 1 0) five_valued no_torn_frame
    ∷ trial (pooled 1 1) five_valued no_torn_frame
    ∷ trial (pooled 2 0) five_valued no_torn_frame
    ∷ trial (paired still alternating) five_valued (AG p0)
    ∷ []

abbrev pub subject : ℕ → Trial
subject i = slice_index_or subjects i (trial staying five_valued (AG p0))

-- in trial i, degree v at state s
abbrev entry : ℕ → ℕ → ℕ → Entry
entry i s v = record { trial = i; state = s; degree = v }

abbrev pub table : List Entry
table =
    entry 0 0 3 ∷ entry 0 1 3 ∷ entry 0 2 4
    ∷ entry 1 0 4 ∷ entry 1 1 3 ∷ entry 1 2 4
    ∷ entry 2 0 2 ∷ entry 2 1 2
    ∷ entry 3 0 4 ∷ entry 3 1 4
    ∷ entry 4 0 2 ∷ entry 4 1 2
    ∷ entry 5 0 0 ∷ entry 5 1 4
    ∷ entry 6 0 1 ∷ entry 6 1 1
    ∷ entry 7 0 2 ∷ entry 7 1 2 ∷ entry 7 2 2 ∷ entry 7 3 2
    ∷ entry 8 0 4 ∷ entry 8 1 4 ∷ entry 8 2 4 ∷ entry 8 3 3
    ∷ entry 9 0 1 ∷ entry 9 3 0
    ∷ entry 10 0 1 ∷ entry 10 1 0
    ∷ []

-- v is the truth value of the trial's formula at state s: there are truth values, and whatever they are, v is the one at s
pub record TrueAt (t : Trial) (s v : ℕ) : Type 0 where
  pub state : s < t.meaning.states
  pub some_truth : (d : ℕ → ℕ) × Truth t.meaning t.grades t.formula d
  pub value : (d : ℕ → ℕ) → Truth t.meaning t.grades t.formula d → d s ≡ v

abbrev pub TableTrue : Type 0
TableTrue = AllByRecursion (λ e. TrueAt (subject e.trial) e.state e.degree) table

-- from state 0 of the first trial some walk breaks level 4 and none breaks level 3, by the truth values d of p0
abbrev pub BrokenAtFour : Type 0
BrokenAtFour =
    (d : ℕ → ℕ) → Truth staying five_valued p0 d →
    Quantified some_walk staying 0 (λ π. ¬ Meets globally (five_valued.reading 4) (reach d 4) (reach unused 4) π)

abbrev pub UnbrokenAtThree : Type 0
UnbrokenAtThree =
    (d : ℕ → ℕ) → Truth staying five_valued p0 d →
    Quantified every_walk staying 0 (λ π. Meets globally (five_valued.reading 3) (reach d 3) (reach unused 3) π)
