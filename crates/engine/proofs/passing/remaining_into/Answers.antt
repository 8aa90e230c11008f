use Rattle.std.proofs.Common.{of_calls}
use Rattle.engine.specs.Passing.{remained}
use Rattle.engine.proofs.Returns.{remained_monotone}
use Rattle.engine.proofs.passing.remaining_into.Goals as goal

pub returns : goal.returns
returns g c =
    c.fill.ensures (remained (g.M.Model.meaning c.args.model.now) c.args.some c.args.right.now c.args.pass.now c.args.left.now)
    (remained_monotone _ _ _ _ _) (λ k x y b e. search of_calls)
