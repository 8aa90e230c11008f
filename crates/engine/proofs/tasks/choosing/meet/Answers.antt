use Rattle.std.proofs.Common.{rules}
use Rattle.engine.proofs.Choosing.{holds_all, holds_none}
use Rattle.engine.proofs.tasks.choosing.meet.Goals as goal

pub returns-in-Finally : goal.returns-in-Finally
returns-in-Finally g c = let few = (g.M.Model.lawful c.args.model.now).few_states in search (rules, holds_all, holds_none)
