use Rattle.std.proofs.Common.{suc, not, rules}
use Rattle.engine.specs.Marks.{before}
use Rattle.engine.proofs.Returns.{settled_round}
use Rattle.engine.proofs.passing.settle.Goals as goal

pub returns : goal.returns
returns g c =
    settled_round _ _ _ _ _ _ _ _ c.greatest_into.new.gone c.such_that-base.result _
    (λ s q. let h = c.such_that-base.ensures s q in search rules) c.greatest_into.ensures
    (c.join.ensures (λ _ s. not (before c.greatest_into.new.gone (suc (g.M.Model.meaning c.args.model.now).states) s)) (λ s x b e. search rules))
