-- The sets of a task, as arrays have them.
use Rattle.std.proofs.Common.{◌≡◌, ℕ, ◌≤◌, Bool, true, false, ◌&&◌, replicate, refl, ap}
use Rattle.logic.specs.Sets.{Set, empty, full}
use Rattle.engine.specs.Marks.{StateSet}
use Rattle.engine.specs.Rounded.{Holds}
use Rattle.engine.proofs.Growing.{everywhere}
use Rattle.engine.proofs.Satisfying.{no_members}

-- all states, and none
pub holds_all : (n : ℕ) (b : StateSet) → n ≤ 4096 → b.at ≡ replicate 4096 true → Holds n full b
holds_all n b h e s l = everywhere b.at true false n s h e l

pub holds_none : (n : ℕ) (b : StateSet) → b.at ≡ replicate 4096 false → Holds n empty b
holds_none n b e s l = ap (λ (T : Set). T s) (no_members b e)

-- nothing is outside all states
pub outside_all : (x : Bool) → (x && false) ≡ false
outside_all true = refl
outside_all false = refl
