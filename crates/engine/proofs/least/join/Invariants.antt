use Rattle.std.proofs.Common.{◌≡◌, ℕ, ◌≤◌}
use Rattle.logic.specs.Sets.{Set}
use Rattle.engine.specs.Marks.{round_of}
use Rattle.engine.specs.Rounded.{Round, Ruled}
use Rattle.engine.proofs.least.join.Given as goal

-- the round is done below s, and not begun from there on
abbrev pub invariant-loop-s : goal.invariant-loop-s
invariant-loop-s g l =
    ((f : Set → Set) → Ruled f l.k (goal.F-post g l.rule) → Round l.s f l.k l.initial.joined l.joined l.grew)
    × ((t : ℕ) → l.s ≤ t → round_of l.joined t ≡ round_of l.initial.joined t)
