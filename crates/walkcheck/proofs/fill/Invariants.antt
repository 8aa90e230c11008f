use Rattle.std.proofs.Common.{◌≤◌, ◌-◌}
use Rattle.walkcheck.proofs.fill.Given as goal

abbrev pub invariant-loop-n : goal.invariant-loop-n
invariant-loop-n g l = l.n ≤ 16385

abbrev pub decreases-loop-n : goal.decreases-loop-n
decreases-loop-n g l = 16385 - l.n
