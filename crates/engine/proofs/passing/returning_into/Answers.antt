use Rattle.std.proofs.Common.{true, false, add-one, arith}
use Rattle.engine.proofs.Growing.{everywhere}
use Rattle.engine.proofs.Returns.{outer_none, outer_more, outer_last, outer_end}
use Rattle.engine.proofs.passing.returning_into.Goals as goal

pub overflow_add-end : goal.overflow_add-end
overflow_add-end g c = omega (arith, c.states-end.ensures, (g.M.Model.lawful c.args.model.now).few_states)

pub loop-init : goal.loop-init
loop-init g c =
    let few = (g.M.Model.lawful c.args.model.now).few_states in
    outer_none (g.M.Model.meaning c.args.model.now) c.args.some c.args.right.now c.args.pass.now c.args.left.now c.of-base.result c.args.joined.now
    (λ s q. everywhere c.of-base.result.at true false _ s few c.of-base.ensures q) (λ s q. everywhere c.args.joined.now.at 0 0 _ s few c.requires.joined q)

pub returns-then-not-apply : goal.returns-then-not-apply
returns-then-not-apply g c =
    outer_last (g.M.Model.meaning c.args.model.now) c.args.some c.args.right.now c.args.pass.now c.args.left.now c.loop.base c.apply.new.base c.loop.joined c.loop.counter c.loop.invariant
    (rw c.if-not-apply.true at c.apply.ensures) (omega arith)

pub loop-preserved : goal.loop-preserved
loop-preserved g c =
    rw add-one
    (outer_more (g.M.Model.meaning c.args.model.now) c.args.some c.args.right.now c.args.pass.now c.args.left.now c.loop.base c.apply.new.base c.loop.joined c.loop.counter c.loop.invariant
    c.apply.result c.apply.ensures c.least.result c.least.ensures)

pub returns : goal.returns
returns g c =
    outer_end (g.M.Model.meaning c.args.model.now) c.args.some c.args.right.now c.args.pass.now c.args.left.now c.loop.base c.loop.joined c.loop.counter (omega arith) c.loop.invariant
