use Rattle.engine.proofs.Satisfying.{no_members}
use Rattle.engine.proofs.satisfy.globally.Goals as goal

pub returns : goal.returns
returns g c = rw (no_members c.of.result c.of.ensures) at c.weak.ensures
