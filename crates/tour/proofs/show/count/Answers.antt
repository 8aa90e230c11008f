use borrow.Author.Tests.{tests}
use Rattle.std.proofs.Common.{◌∙◌, rules, arith}
use Rattle.std.proofs.lemmas.Iterator.{YieldsList-from_range}
use Rattle.std.proofs.lemmas.Iterator.Consumers.{YieldsList-from_filter, count_from_yields_List}
use Rattle.std.proofs.lemmas.List.Sums.{length-filter}
use Rattle.tour.proofs.Counting.{counted}
use Rattle.tour.proofs.show.count.Goals as goal

pub returns : goal.returns
returns g c =
    let m = g.M.Model.meaning c.args.model.now in
    let passes = m.holds c.args.p in
    count_from_yields_List c.filter.result _ c.count.ensures.ran
    (YieldsList-from_filter _ passes (YieldsList-from_range 0 c.states.result m.states c.filter.ensures.source (omega (arith, c.states.ensures))) c.filter.ensures.closure (λ x r q k. search (rules, tests)))
    ∙ length-filter passes _ ∙ counted passes m.states
