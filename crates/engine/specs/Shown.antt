-- What the engine answers when it is asked for one walk.
use Rattle.std.specs.Prelude.{◌≡◌, ℕ, List, Some, None, Option}
use Rattle.model.specs.Meaning.{Meaning}
use Rattle.scale.specs.declared.reading.Reading.{Reading}
use Rattle.logic.specs.Searches.{Task as Asked, task, Shows}
use Rattle.logic.specs.Sets.{Set}
use Rattle.logic.specs.Walks.{Walk, Quantifier, Operator}
use Rattle.engine.specs.declared.tasks.Task.{Task}
use Rattle.engine.specs.Lassos.{endless, Written}
use Rattle.engine.specs.Marks.{members}
use Rattle.engine.specs.Rounded.{Holds}

-- the task that the code's sets say
abbrev pub carried : Task → Asked
carried x = task (members x.a) (members x.b) (members x.c) x.settles

-- the code's sets are those of the task below n
pub record Carries (n : ℕ) (t : Asked) (x : Task) : Type 0 where
  pub a : Holds n t.A x.a
  pub b : Holds n t.B x.b
  pub c : Holds n t.C x.c
  pub settles : x.settles ≡ t.settles

-- a walk from s that meets or breaks the level is written over what ys held
pub record Shown (m : Meaning) (q : Quantifier) (op : Operator) (r : Reading) (left right : Set) (s : ℕ) (ys xs : List ℕ) (p d : ℕ) : Type 0 where
  pub written : Written m.states ys xs p d
  pub walk : Walk m s (endless xs p d)
  pub does : Shows q op r left right (endless xs p d)

-- such a walk, or that there is none
abbrev pub ShownBy : Meaning → Quantifier → Operator → Reading → Set → Set → ℕ → List ℕ → List ℕ → Option (ℕ × ℕ) → Type 0
ShownBy m q op r left right s ys xs None = ((π : ℕ → ℕ) → Walk m s π → ¬ Shows q op r left right π) × (xs ≡ ys)
ShownBy m q op r left right s ys xs (Some c) = Shown m q op r left right s ys xs c.0 c.1
