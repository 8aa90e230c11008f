-- What a client may promise its own users, from the laws of the sheet alone.
use Rattle.std.specs.Prelude.{◌≡◌, ℕ, ◌*◌, ◌<◌, ◌≤◌, ◌||◌, List, length, Some, None, Option, Result, nat_le, nat_lt}
use Rattle.logic.specs.Formulas.{Formula, Truth}
use Rattle.logic.specs.Formulas.Formula.{prop, unary}
use Rattle.logic.specs.Formulas.Unary.{neg, G}
use Rattle.logic.specs.Walks.Quantifier.{every_walk}
use Rattle.model.specs.Faults.{Refusal, refusal}
use Rattle.model.specs.Meaning.{Meaning}
use Rattle.model.specs.Walkable.{walkability}
use Rattle.scale.specs.Grades.{Grades}
use Rattle.sheet.specs.Calls.{refuse_if, and_then}
use Rattle.sheet.specs.Histories.{Does, SomeWalkDoes}
use Rattle.sheet.specs.Walking.{Granted}
use Rattle.client.specs.declared.Verdict.{Verdict}

-- on every walk, proposition p never holds
abbrev pub never_holds : ℕ → Formula
never_holds p = unary (G every_walk) (unary neg (prop p))

-- a walk that breaks the level is written, or there is none
abbrev pub Broken : Meaning → Grades → ℕ → ℕ → ℕ → List ℕ → List ℕ → Option (ℕ × ℕ) → Type 0
Broken m g p s l ys xs (Some c) = Granted m (Does m g (never_holds p) l) s ys xs c.0 c.1
Broken m g p s l ys xs None = ¬ SomeWalkDoes m g (never_holds p) l s

-- the degree is the truth value of "p never holds" at s, and the run, if any, breaks level l
pub record Judged (m : Meaning) (g : Grades) (p s l : ℕ) (ys xs : List ℕ) (v : Verdict) : Type 0 where
  pub degree : s < m.states → (d : ℕ → ℕ) × Truth m g (never_holds p) d × (v.degree ≡ d s)
  pub run : s < m.states → 1 ≤ l → l ≤ g.levels → 2 * m.states ≤ length ys → Broken m g p s l ys xs v.run
  -- there is a run only where the level is on the scale and the walk buffer has room for one
  pub asked : (c : ℕ × ℕ) → v.run ≡ Some c → (1 ≤ l) × (l ≤ g.levels) × (2 * m.states ≤ length ys)
  -- where there is none, nothing is written
  pub still : v.run ≡ None → xs ≡ ys

-- what is refused, in order: a model that cannot be walked; buffers too short for the first row; a proposition that is not
-- there; buffers too short for three rows; a state that is not there
abbrev pub refused : Meaning → (k l p s : ℕ) → Result Unit Refusal
refused m k l p s =
    and_then (walkability m)
    (and_then (refuse_if (nat_lt k 1 || nat_lt l m.states) (refusal 4 0))
    (and_then (refuse_if (nat_le m.props p) (refusal 6 0))
    (and_then (refuse_if (nat_lt k 3 || nat_lt l (3 * m.states)) (refusal 4 0))
    (refuse_if (nat_le m.states s) (refusal 8 0)))))
