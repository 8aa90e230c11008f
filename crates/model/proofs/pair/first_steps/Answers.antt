use Rattle.std.proofs.Common.{◌≡◌, ◌+◌, ◌*◌, sym, subst, arith, rules}
use Rattle.std.specs.Option.{option_map}
use Rattle.model.specs.Meaning.{Least}
use Rattle.model.proofs.Paired.{least_quotient, quotient_inside}
use Rattle.model.proofs.pair.first_steps.Goals as goal

pub map-requires : goal.map-requires
map-requires g c =
    λ k found.
    let h = quotient_inside (g.M.Model.meaning c.args.part.now) (g.M.Model.lawful c.args.part.now) c.args.i _ c.args.width c.args.j c.requires.0 c.requires.1 c.least_step.result c.least_step.ensures k found in
    (λ _ _ _ _ _. omega (arith, h), λ _ _ _ _ _ _. omega (arith, h))

pub returns : goal.returns
returns g c =
    let same : c.map.result ≡ option_map (λ k. k * c.args.width + c.args.j) c.least_step.result = search rules in
    subst (Least _ c.args.t) (sym same)
    (least_quotient c.args.t c.args.j c.args.width c.saturating_sub.result c.div_ceil-from.result c.requires.0 c.saturating_sub.ensures c.div_ceil-from.ensures
    ((g.M.Model.meaning c.args.part.now).step c.args.i) c.least_step.result c.least_step.ensures)
