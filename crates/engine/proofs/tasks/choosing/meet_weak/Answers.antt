use Rattle.std.proofs.Common.{rules}
use Rattle.engine.proofs.Choosing.{holds_all, holds_none}
use Rattle.engine.proofs.tasks.choosing.meet_weak.Goals as goal

pub returns-in-Sometime : goal.returns-in-Sometime
returns-in-Sometime g c = let few = (g.M.Model.lawful c.args.model.now).few_states in search (rules, holds_all, holds_none)

pub returns-in-InfinitelyOften : goal.returns-in-InfinitelyOften
returns-in-InfinitelyOften g c = let few = (g.M.Model.lawful c.args.model.now).few_states in search (rules, holds_all, holds_none)

pub returns-in-EventuallyAlways : goal.returns-in-EventuallyAlways
returns-in-EventuallyAlways g c = let few = (g.M.Model.lawful c.args.model.now).few_states in search (rules, holds_all, holds_none)
