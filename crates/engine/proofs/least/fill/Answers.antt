use Rattle.std.proofs.Common.{add-one, arith}
use Rattle.engine.proofs.Growing.{none-joined, round_past, round_joins, last_joins}
use Rattle.engine.proofs.least.fill.Goals as goal

pub loop-k-init : goal.loop-k-init
loop-k-init g c = λ f mono each. none-joined _ f c.args.joined.now (g.M.Model.lawful c.args.model.now).few_states c.requires.joined

pub returns-then-not-round : goal.returns-then-not-round
returns-then-not-round g c = λ f mono each.
    let few = (g.M.Model.lawful c.args.model.now).few_states in
    let (js, past) = c.loop-k.invariant f mono each in
    last_joins _ f mono few _ _ c.loop-k.k (omega arith) past js (rw c.if-not-round.true at (each _ _ _ _ c.round.ensures))

pub loop-k-preserved : goal.loop-k-preserved
loop-k-preserved g c = λ f mono each.
    let few = (g.M.Model.lawful c.args.model.now).few_states in
    let (js, past) = c.loop-k.invariant f mono each in
    let r = each _ _ _ _ c.round.ensures in
    rw add-one (round_joins _ f mono few _ _ c.loop-k.k (omega arith) past js _ r, round_past _ f mono few _ _ c.loop-k.k (omega arith) past js _ r)
