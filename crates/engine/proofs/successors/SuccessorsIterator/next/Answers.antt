use Rattle.std.proofs.Common.{length, ap, rules, arith}
use Rattle.engine.proofs.Stepping.{none_left, first_left}
use Rattle.engine.proofs.successors.SuccessorsIterator.next.Goals as goal

pub returns-in_err-u-clause-steps : goal.returns-in_err-u-clause-steps
returns-in_err-u-clause-steps g c =
    let e = none_left (g.M.Model.meaning c.args.self.now.model.now) c.args.self.now.s c.args.self.now.next c.in_err-u.ensures in
    rw c.from_residual.ensures (e, e)

pub returns-clause-steps : goal.returns-clause-steps
returns-clause-steps g c =
    first_left (g.M.Model.meaning c.args.self.now.model.now) c.args.self.now.s c.args.self.now.next c.in_ok-u.u (g.M.Model.lawful c.args.self.now.model.now) c.in_ok-u.ensures

pub returns-clause-goes : goal.returns-clause-goes
returns-clause-goes g c =
    let e = ap length (first_left (g.M.Model.meaning c.args.self.now.model.now) c.args.self.now.s c.args.self.now.next c.in_ok-u.u (g.M.Model.lawful c.args.self.now.model.now) c.in_ok-u.ensures) in
    record { on = λ f. (search rules, f, omega (arith, e)); keeps = search rules; rests = λ f. search rules }
