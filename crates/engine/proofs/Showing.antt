-- A search for a task shows a walk, or that there is none.
use Rattle.std.proofs.Common.{◌≡◌, ℕ, ◌<◌, Bool, List, Some, None, Option, sym, ap, ◌∙◌, subst}
use Rattle.model.specs.Meaning.{Meaning, Lawful}
use Rattle.model.specs.Walkable.{Total}
use Rattle.scale.specs.declared.reading.Reading.{Reading}
use Rattle.logic.proofs.Seeking.{search_finds, search_misses}
use Rattle.logic.specs.Searches.{Task as Asked, task, task_of, sought, Guides}
use Rattle.logic.specs.Sets.{Set}
use Rattle.logic.specs.Walks.{Quantifier, Operator}
use Rattle.engine.specs.Lassos.{Searched}
use Rattle.engine.specs.Marks.{members}
use Rattle.engine.specs.Shown.{carried, Carries, ShownBy}
use Rattle.engine.specs.declared.tasks.Task.{Task}
use Rattle.engine.proofs.Agreeing.{same-sought, same-guides}

module _ (m : Meaning) (law : Lawful m) (total : Total m) (q : Quantifier) (op : Operator) (r : Reading) (left right : Set) (x : Task) (c : Carries m.states (task_of q op r left right) x) where
  abbrev t : Asked
  t = task_of q op r left right

  -- what the code searched for, and what was asked
  abbrev had : Asked
  had = carried x

  sought_is : (s : ℕ) → s < m.states → sought m op had s ≡ sought m op t s
  sought_is s l =
      ap (λ (k : Bool). sought m op (task (members x.a) (members x.b) (members x.c) k) s) c.settles
      ∙ same-sought m (members x.a) (members x.b) (members x.c) t.A t.B t.C c.a c.b c.c op t.settles s l

  guides_is : (ρ : ℕ → ℕ) → Guides m op had ρ → Guides m op t ρ
  guides_is ρ h =
      same-guides m (members x.a) (members x.b) (members x.c) t.A t.B t.C c.a c.b c.c op t.settles ρ
      (subst (λ (k : Bool). Guides m op (task (members x.a) (members x.b) (members x.c) k) ρ) c.settles h)

  pub shown : (s : ℕ) → s < m.states → (ys xs : List ℕ) (o : Option (ℕ × ℕ)) → Searched m op had s ys xs o → ShownBy m q op r left right s ys xs o
  shown s l ys xs None (e, same) = (search_misses m law total q op r left right s l (sym (sought_is s l) ∙ e), same)
  shown s l ys xs (Some d) f =
      record {
        written = f.written;
        walk = f.followed.walk;
        does = search_finds m law total q op r left right f.ρ (guides_is f.ρ f.guides) s l (sym (sought_is s l) ∙ f.has) _ f.followed;
      }
