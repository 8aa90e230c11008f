use Rattle.std.proofs.Common.{◌≡◌, ◌∙◌, rules}
use Rattle.logic.specs.FixedPoints.{pre}
use Rattle.engine.specs.Marks.{members, before, ours}
use Rattle.engine.proofs.Nesting.{pre_alike}
use Rattle.engine.proofs.satisfy.next.Goals as goal

pub returns : goal.returns
returns g c =
    let m = g.M.Model.meaning c.args.model.now in
    let T = before c.join_first-first.result 1 in
    λ s q.
    let h = c.such_that.ensures s q in
    let e : members c.such_that.result s ≡ pre m (ours c.args.some) T s = search rules in
    e ∙ pre_alike m (ours c.args.some) T (members c.args.left.now) c.join_first-first.ensures s
