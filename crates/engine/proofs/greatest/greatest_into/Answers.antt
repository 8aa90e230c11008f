use Rattle.engine.specs.Rounded.{Turned}
use Rattle.engine.proofs.Turning.{turn_joins}
use Rattle.engine.proofs.greatest.greatest_into.Goals as goal

pub returns : goal.returns
returns g c =
    let m = g.M.Model.meaning c.args.model.now in
    let turned : Turned m.states c.args.s1.now c.args.s2.now c.neither-a.result c.outside-b.result =
    λ s q. (c.neither-a.ensures s q, c.outside-b.ensures s q) in
    turn_joins m c.args.some _ _ _ _ _ _ turned c.least_into.ensures
