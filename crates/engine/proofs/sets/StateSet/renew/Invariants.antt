use Rattle.std.proofs.Common.{◌≡◌, ℕ, ◌<◌, ◌≤◌, false}
use Rattle.engine.specs.Marks.{members}
use Rattle.engine.specs.Rounded.{Holds}
use Rattle.engine.proofs.sets.StateSet.renew.Given as goal

-- the states below s are marked anew, and those from there on have the marks they had
abbrev pub invariant-loop-s : goal.invariant-loop-s
invariant-loop-s g l =
    ((k : ℕ) → k < l.s → goal.F-post g l.rule k (members l.self k))
    × ((k : ℕ) → l.s ≤ k → members l.self k ≡ members l.initial.self k)
    × (l.changed ≡ false → Holds l.s (members l.initial.self) l.self)
