use Rattle.std.proofs.Common.{suc, rules, arith}
use Rattle.engine.proofs.satisfy.always.Goals as goal

pub returns : goal.returns
returns g c =
    λ s q.
    let h = c.such_that.ensures s q in
    let k = c.greatest-gone.ensures s q (suc (g.M.Model.meaning c.args.model.now).states) (omega arith) in search rules
