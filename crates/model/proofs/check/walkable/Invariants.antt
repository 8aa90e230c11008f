use Rattle.std.proofs.Common.{ℕ, ◌-◌, ◌<◌, ◌≤◌}
use Rattle.model.specs.Walkable.{HasStep}
use Rattle.model.proofs.check.walkable.Given as goal

-- every state passed has a step
abbrev pub invariant-loop-s : goal.invariant-loop-s
invariant-loop-s g l = (l.s ≤ l.n) × ((k : ℕ) → k < l.s → HasStep (g.M.Model.meaning l.model) k)

abbrev pub decreases-loop-s : goal.decreases-loop-s
decreases-loop-s g l = l.n - l.s
