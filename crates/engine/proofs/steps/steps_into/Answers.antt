use Rattle.std.proofs.Common.{◌≡◌, true, false, rules, tests}
use mathlib.Core.Bool.{beq}
use Rattle.std.proofs.lemmas.Iterator.{cases_from_any}
use Rattle.std.proofs.lemmas.Iterator.Consumers.{YieldsList-from_first}
use Rattle.engine.specs.Marks.{before}
use Rattle.engine.specs.Targets.{targets}
use Rattle.engine.proofs.Stepping.{any_step}
use Rattle.engine.proofs.steps.steps_into.Goals as goal

pub returns : goal.returns
returns g c =
    let m = g.M.Model.meaning c.args.model.now in
    any_step m (g.M.Model.lawful c.args.model.now) (before c.args.joined.now c.args.k) c.args.s c.args.some c.any.result
    (cases_from_any c.any.new.self _ _ (λ u. beq (before c.args.joined.now c.args.k u) c.args.some ≡ true) (λ u. beq (before c.args.joined.now c.args.k u) c.args.some ≡ false) c.any.ensures.ran
    (YieldsList-from_first (λ x. x) (λ i. targets (g.M.Model.meaning i.model.now) i.s i.next) (targets m c.args.s 0) c.of.ensures)
    (λ x q k. search (rules, tests)) (λ x q k. search (rules, tests)))
