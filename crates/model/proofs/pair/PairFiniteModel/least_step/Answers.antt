use Rattle.std.proofs.Common.{◌≡◌, ◌/◌, ◌%◌, ◌<◌, ◌&&◌, eqb, sym, subst, arith, rules}
use Rattle.model.specs.Meaning.{Least}
use Rattle.model.specs.Pairs.{paired}
use Rattle.model.proofs.Paired.{paired-least}
use Rattle.model.proofs.pair.PairFiniteModel.least_step.Goals as goal

pub returns : goal.returns
returns g c =
    let a = g.A.Model.meaning c.args.self.now.first in
    let b = g.B.Model.meaning c.args.self.now.second in
    let same : c.joined.result.states ≡ (paired a b).states = search rules in
    let lt : c.args.s < (paired a b).states = omega arith in
    subst (Least _ c.args.t) (sym c.lesser_of.ensures)
    (paired-least a b (g.A.Model.lawful _) (g.B.Model.lawful _) c.args.s lt c.args.t c.first_steps.result c.second_steps.result
    (subst (λ n. Least (λ u. eqb (u % n) (c.args.s % n) && a.step (c.args.s / n) (u / n)) c.args.t c.first_steps.result) c.size-b.ensures.states c.first_steps.ensures)
    (subst (λ n. Least (λ u. eqb (u / n) (c.args.s / n) && b.step (c.args.s % n) (u % n)) c.args.t c.second_steps.result) c.size-b.ensures.states c.second_steps.ensures))
