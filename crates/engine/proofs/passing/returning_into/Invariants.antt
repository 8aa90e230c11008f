use Rattle.engine.proofs.Returns.{Outer}
use Rattle.engine.proofs.passing.returning_into.Given as goal

abbrev pub invariant-loop : goal.invariant-loop
invariant-loop g l = Outer (g.M.Model.meaning l.model) l.some l.right l.pass l.left l.base l.joined l.counter
