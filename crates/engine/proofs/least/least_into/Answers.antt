use Rattle.std.proofs.Common.{of_calls}
use Rattle.logic.proofs.Rules.{F_monotone}
use Rattle.engine.specs.Rounded.{step_f}
use Rattle.engine.proofs.least.least_into.Goals as goal

pub returns : goal.returns
returns g c =
    c.fill.ensures (step_f (g.M.Model.meaning c.args.model.now) c.args.some c.args.s1.now c.args.s2.now)
    (F_monotone _ _ _ _) (λ k x y b e. search of_calls)
