use Rattle.std.proofs.Common.{◌≡◌, ◌+◌, ◌*◌, sym, subst, arith, rules}
use Rattle.std.specs.Option.{option_map}
use Rattle.model.specs.Meaning.{Least}
use Rattle.model.proofs.Paired.{least_remainder}
use Rattle.model.proofs.pair.second_steps.Goals as goal

pub returns : goal.returns
returns g c =
    let same : c.map.result ≡ option_map (λ k. c.args.i * c.args.width + k) c.least_step.result = search rules in
    subst (Least _ c.args.t) (sym same)
    (least_remainder c.args.t c.args.i c.args.width c.saturating_sub.result c.saturating_sub.ensures
    ((g.M.Model.meaning c.args.part.now).step c.args.j)
    (λ k e. omega (arith, (g.M.Model.lawful c.args.part.now).steps_to c.args.j k e)) c.least_step.result c.least_step.ensures)
