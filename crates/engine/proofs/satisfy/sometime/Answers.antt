use Rattle.std.proofs.Common.{refl, ◌∙◌}
use Rattle.logic.specs.Sets.{full}
use Rattle.engine.specs.Marks.{members}
use Rattle.engine.proofs.Choosing.{holds_all}
use Rattle.engine.proofs.Satisfying.{of_alike}
use Rattle.engine.proofs.satisfy.sometime.Goals as goal

pub returns : goal.returns
returns g c =
    λ s q. c.least_set.ensures s q
    ∙ of_alike (g.M.Model.meaning c.args.model.now) c.args.some (members c.args.s1.now) full (members c.args.s1.now) (members c.of.result) (λ s q. refl)
    (holds_all _ c.of.result (g.M.Model.lawful c.args.model.now).few_states c.of.ensures) s q
