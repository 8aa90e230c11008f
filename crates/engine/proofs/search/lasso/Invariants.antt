use Rattle.engine.specs.Marks.{round_of}
use Rattle.engine.proofs.Trails.{Trail}
use Rattle.engine.proofs.search.lasso.Given as goal

abbrev pub invariant-loop-i : goal.invariant-loop-i
invariant-loop-i g l = Trail (g.M.Model.meaning l.model) (round_of l.rank) l.s l.initial.out l.out l.i l.t
