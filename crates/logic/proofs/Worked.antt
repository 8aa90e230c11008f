-- The table of trials is computed by the sets, and the theorems make it one of truth values.
use Rattle.std.proofs.Common.{◌≡◌, ℕ, Bool, true, ◌&&◌, eqb, ltb, List, [], ◌∷◌, length, refl, ◌∙◌, subst, ⊎_elim, arith}
use Rattle.std.proofs.ByRecursion.{All-get_or}
use Rattle.std.proofs.lemmas.Bool.{and_parts, eqb-true, ltb-true, cases_Bool}
use Rattle.std.specs.List.{AllByRecursion}
use Rattle.model.proofs.Below.{some_decides, every_decides}
use Rattle.model.specs.Below.{some, every}
use Rattle.model.specs.Lawfulness.{listed_lawful, pooled_lawful, paired_lawful}
use Rattle.model.specs.Meaning.{Meaning, Lawful}
use Rattle.model.specs.Walkable.{Total}
use Rattle.scale.specs.Grades.{Lawful as Orderly, five_valued}
use Rattle.scale.specs.Lawfulness.{boolean_lawful, five_lawful}
use Rattle.logic.specs.FixedPoints.{pre, F, G}
use Rattle.logic.specs.Formulas.{Truth, unused}
use Rattle.logic.specs.Kinds.{Kind, reach, Highest}
use Rattle.logic.specs.Kinds.Kind.{path}
use Rattle.logic.specs.Satisfaction.{sat, row_degree, degree}
use Rattle.logic.specs.Trials.{Trial, staying_steps, staying_holdings, staying, alternating_steps, alternating_holdings, alternating, still, p0, subjects, subject, table, TrueAt, TableTrue, BrokenAtFour, UnbrokenAtThree}
use Rattle.scale.specs.declared.reading.Reading.TheVariants.{Always}
use Rattle.logic.specs.Walks.{Meets, Quantified}
use Rattle.logic.specs.Walks.Operator.{globally}
use Rattle.logic.specs.Walks.Quantifier.{some_walk, every_walk}
use Rattle.logic.specs.declared.trials.Entry.{Entry}
use Rattle.logic.proofs.Levels.{At, sat_is_walks, broken_by_some_walk}
use Rattle.logic.proofs.Rows.{row_degree_is_value}
use Rattle.logic.proofs.Values.{degree_is_truth, truth_unique}

-- the theorems hold of the trial's model and scale
pub record Fit (t : Trial) : Type 0 where
  pub law : Lawful t.meaning
  pub total : Total t.meaning
  pub orderly : Orderly t.grades

total_by_test : (m : Meaning) → every m.states (λ s. some m.states (m.step s)) ≡ true → Total m
total_by_test m e s h =
    let f = (some_decides (m.step s) m.states).0 ((every_decides (λ s. some m.states (m.step s)) m.states).0 e s h) in (f.0, f.2)

abbrev fit : (t : Trial) → Lawful t.meaning → every t.meaning.states (λ s. some t.meaning.states (t.meaning.step s)) ≡ true → Orderly t.grades → Fit t
fit t law e orderly = record { law = law; total = total_by_test t.meaning e; orderly = orderly }

staying-lawful : Lawful staying
staying-lawful = listed_lawful 3 1 staying_steps staying_holdings

alternating-lawful : Lawful alternating
alternating-lawful = listed_lawful 2 1 alternating_steps alternating_holdings

all_fit : AllByRecursion Fit subjects
all_fit = (
  fit _ staying-lawful refl five_lawful,
  (
    fit _ staying-lawful refl five_lawful,
    (
      fit _ alternating-lawful refl five_lawful,
      (
        fit _ alternating-lawful refl five_lawful,
        (
          fit _ alternating-lawful refl five_lawful,
          (
            fit _ alternating-lawful refl five_lawful,
            (
              fit _ alternating-lawful refl boolean_lawful,
              (
                fit _ (pooled_lawful 1 0) refl five_lawful,
                (
                  fit _ (pooled_lawful 1 1) refl five_lawful,
                  (fit _ (pooled_lawful 2 0) refl five_lawful, (fit _ (paired_lawful still alternating) refl five_lawful, tt)),
                ),
              ),
            ),
          ),
        ),
      ),
    ),
  ),
)

-- what is computed of an entry
test : Entry → Bool
test e =
    ltb e.trial (length subjects) && (ltb e.state (subject e.trial).meaning.states
    && eqb (degree (subject e.trial).meaning (subject e.trial).grades (subject e.trial).formula e.state) e.degree)

passes : List Entry → Bool
passes [] = true
passes (e ∷ es) = test e && passes es

entry_true : (e : Entry) → test e ≡ true → TrueAt (subject e.trial) e.state e.degree
unfolding test
entry_true e h =
    let t = subject e.trial in
    let p = and_parts (ltb e.trial (length subjects)) _ h in
    let q = and_parts (ltb e.state t.meaning.states) _ p.1 in
    let ok = All-get_or Fit subjects e.trial _ (ltb-true e.trial (length subjects) p.0) all_fit in
    let here = ltb-true e.state t.meaning.states q.0 in
    let truth = degree_is_truth t.meaning ok.law ok.total t.grades ok.orderly t.formula in
    record {
      state = here;
      some_truth = (degree t.meaning t.grades t.formula, truth);
      value = λ d z.
          truth_unique t.meaning ok.law ok.total t.grades ok.orderly t.formula d (degree t.meaning t.grades t.formula) z truth e.state here
          ∙ eqb-true _ e.degree q.1;
    }

all_true : (es : List Entry) → passes es ≡ true → AllByRecursion (λ e. TrueAt (subject e.trial) e.state e.degree) es
unfolding passes
all_true [] h = tt
all_true (e ∷ es) h = let p = and_parts (test e) (passes es) h in (entry_true e p.0, all_true es p.1)

table_passes : passes table ≡ true
unfolding passes test degree F G pre
table_passes = refl

pub table_true : TableTrue
table_true = all_true table table_passes

-- the first trial's row at state 0, by any truth values d of its operand
module _ (d : ℕ → ℕ) (z : Truth staying five_valued p0 d) where
  abbrev row : Kind
  row = path every_walk globally

  total : Total staying
  total = all_fit.0.total

  is_three : row_degree staying five_valued row d unused 0 ≡ 3
  is_three =
      table_true.0.value (row_degree staying five_valued row d unused)
      (d, z, λ s h. row_degree_is_value staying staying-lawful total five_valued five_lawful row d unused s h)

  highest : Highest 4 (At staying staying-lawful total five_valued five_lawful every_walk globally d unused 0) 3
  highest =
      subst (Highest 4 (At staying staying-lawful total five_valued five_lawful every_walk globally d unused 0)) is_three
      (row_degree_is_value staying staying-lawful total five_valued five_lawful row d unused 0 (omega arith))

  unbroken : At staying staying-lawful total five_valued five_lawful every_walk globally d unused 0 3
  unbroken = highest.has (omega arith)

  broken : Quantified some_walk staying 0 (λ π. ¬ Meets globally (five_valued.reading 4) (reach d 4) (reach unused 4) π)
  broken =
      ⊎_elim
      (λ e. absurd (highest.none_above 4 (omega arith) (omega arith)
      ((sat_is_walks staying staying-lawful total five_valued five_lawful every_walk globally d unused 4 0 (omega arith) (omega arith) (omega arith)).0 e)))
      (λ e. broken_by_some_walk staying staying-lawful total globally Always (reach d 4) (reach unused 4) 0 (omega arith) e)
      (cases_Bool (sat staying five_valued row 4 d unused 0))

pub broken_at_four : BrokenAtFour
broken_at_four = broken

pub unbroken_at_three : UnbrokenAtThree
unbroken_at_three = unbroken
