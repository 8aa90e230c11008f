use Rattle.std.proofs.Common.{◌≡◌, true, is_some, Ok, Err, arith, rules, below_more}
use Rattle.std.proofs.lemmas.Grind.{common_steps}
use Rattle.model.specs.Walkable.{Checked}
use Rattle.model.specs.declared.fault.ModelFault.TheVariants.{DeadEnd}
use Rattle.model.proofs.Walked.{found-step, exact}
use Rattle.model.proofs.check.walkable.Goals as goal

pub loop-s-preserved : goal.loop-s-preserved
loop-s-preserved g c =
    let t : is_some c.least_step.result ≡ true = search rules in
    (omega arith, below_more _ _ c.loop-s.invariant.1 (found-step (g.M.Model.meaning c.args.model.now) c.loop-s.s _ c.least_step.result c.least_step.ensures t))

pub returns-then-stuck-n-clause-exact : goal.returns-then-stuck-n-clause-exact
returns-then-stuck-n-clause-exact g c =
    let means : Checked (g.M.Model.meaning c.args.model.now) (Err (DeadEnd c.loop-s.s)) = grind (arith, common_steps) in
    exact (g.M.Model.meaning c.args.model.now) (g.M.Model.lawful c.args.model.now) (Err (DeadEnd c.loop-s.s)) means

pub returns-clause-exact : goal.returns-clause-exact
returns-clause-exact g c =
    let means : Checked (g.M.Model.meaning c.args.model.now) (Ok tt) = grind (arith, common_steps) in
    exact (g.M.Model.meaning c.args.model.now) (g.M.Model.lawful c.args.model.now) (Ok tt) means
