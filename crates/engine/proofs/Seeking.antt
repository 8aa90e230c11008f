-- Rounds of nested fixed points guide the search of every operator but X.
use Rattle.std.proofs.Common.{◌≡◌, suc, true, false, refl, arith}
use Rattle.model.specs.Meaning.{Meaning}
use Rattle.logic.specs.Searches.{found, guide_of, Joined, sought, Guides}
use Rattle.engine.specs.Marks.{round_of, before, Rounds}
use Rattle.engine.specs.Passing.{Returning, remained}
use Rattle.engine.specs.Rounded.{Joins}
use Rattle.engine.specs.Satisfied.{asked}
use Rattle.engine.specs.Seeking.{found_by}
use Rattle.engine.specs.Shown.{carried}
use Rattle.engine.specs.declared.operator.Operator.{Operator}
use Rattle.engine.specs.declared.operator.Operator.TheVariants.{Next, Finally, Globally, Until, Weak}
use Rattle.engine.specs.declared.tasks.Task.{Task}
use Rattle.engine.proofs.Nesting.{Same}

module _ (m : Meaning) (t : Task) (x : Rounds) where
  -- the rounds guide the search, and find the states that it is to find
  abbrev Sought : Operator → Type 0
  Sought o = record {
    guides : Guides m (asked o) (carried t) (round_of x);
    find : Same m.states (found_by m (asked o) x) (sought m (asked o) (carried t));
  }

  by_operator : (o : Operator) → (o ≡ Next → ⊥) → Joined m.states (guide_of m (carried t)) (round_of x) → Same m.states (before x (suc m.states)) (found m (carried t)) → Sought o
  by_operator Next ne g f = absurd (ne refl)
  by_operator Finally ne g f = record { guides = g; find = f }
  by_operator Globally ne g f = record { guides = g; find = f }
  by_operator Until ne g f = record { guides = g; find = f }
  by_operator Weak ne g f = record { guides = g; find = f }

  module _ (o : Operator) (ne : o ≡ Next → ⊥) where
    pub by_remaining : t.settles ≡ true → Joins m.states (remained m true t.a t.b t.c) x (suc m.states) → Sought o
    by_remaining e js = by_operator o ne (rw e js) (rw e (λ s q. js s q (suc m.states) (omega arith)))

    pub by_returning : t.settles ≡ false → Returning m true t.a t.b t.c x → Sought o
    by_returning e r = by_operator o ne (rw e r.rounds_of) (rw e r.set)
