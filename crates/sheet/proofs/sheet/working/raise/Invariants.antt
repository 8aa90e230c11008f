use Rattle.std.proofs.Common.{◌≡◌, ℕ, ◌<◌, ◌≤◌, cond, get_or}
use Rattle.engine.specs.Marks.{members}
use Rattle.sheet.proofs.sheet.working.raise.Given as goal

-- the states passed are raised, the others are as they were
abbrev pub invariant-loop-s : goal.invariant-loop-s
invariant-loop-s l =
    ((k : ℕ) → k < l.s → get_or l.degrees.at k 0 ≡ cond (members l.set k) l.level (get_or l.initial.degrees.at k 0))
    × ((k : ℕ) → l.s ≤ k → get_or l.degrees.at k 0 ≡ get_or l.initial.degrees.at k 0)
