use Rattle.std.proofs.Common.{rules}
use Rattle.engine.proofs.sets.StateSet.outside.Goals as goal

pub returns : goal.returns
returns g c = λ s q. let h = c.such_that.ensures s q in search rules
