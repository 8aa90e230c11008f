use Rattle.std.proofs.Common.{refl, ◌∙◌}
use Rattle.logic.specs.Sets.{full, union}
use Rattle.engine.specs.Marks.{members}
use Rattle.engine.proofs.Satisfying.{of_alike}
use Rattle.engine.proofs.satisfy.either.Goals as goal

pub returns : goal.returns
returns g c =
    λ s q. c.sometime.ensures s q
    ∙ of_alike (g.M.Model.meaning c.args.model.now) c.args.some (union (members c.args.operands.right.now) (members c.args.operands.left.now)) full (members c.either.result) full
    c.either.ensures (λ t l. refl) s q
