use Rattle.std.proofs.Common.{◌≡◌, ◌-◌, ◌≤◌, true, ◌&&◌, leb, ◌++◌, replicate, Some, None, sym, ap, ◌∙◌, rules, arith}
use Rattle.std.proofs.lemmas.Bool.{cond-true}
use Rattle.std.proofs.lemmas.Bool.Decides.{nat_tests}
use Rattle.scale.proofs.Cut.{cut}
use Rattle.scale.proofs.digits.digits.Goals as goal

pub returns : goal.returns
returns c =
    let few : (1 ≤ c.args.levels) × (c.args.levels ≤ 4) = search rules in
    let fits : (leb 1 c.args.levels && leb c.args.levels 4 && leb c.args.degree c.args.levels) ≡ true = grind (arith, nat_tests) in
    let ones : c.from-ones.result ≡ c.args.degree = search rules in
    let zeros : c.from-zeros.result ≡ c.args.levels - c.args.degree = search rules in
    ap Some (c.range.ensures.value ∙ (rw (ones, zeros) (cut (c.args.levels - c.args.degree) c.args.degree (omega arith) (omega arith))))
    ∙ sym (cond-true _ (Some (replicate (c.args.levels - c.args.degree) 48 ++ replicate c.args.degree 49)) None fits)
