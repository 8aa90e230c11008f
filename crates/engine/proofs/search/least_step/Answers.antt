use Rattle.std.proofs.Common.{rules, tests}
use Rattle.std.proofs.lemmas.Option.{MatchOption-at_some}
use Rattle.engine.specs.Marks.{round_of}
use Rattle.engine.specs.Targets.{targets}
use Rattle.engine.proofs.Stepping.{among, chosen}
use Rattle.engine.proofs.search.least_step.Goals as goal

pub unwrap-requires : goal.unwrap-requires
unwrap-requires g c =
    let a = among (g.M.Model.meaning c.args.model.now) c.args.s c.requires.0 (g.M.Model.lawful c.args.model.now) c.requires.1 in
    search rules

pub returns : goal.returns
returns g c =
    let (p, from, whole, least) = c.min_by_key.ensures.runs in
    let (some, keys) = MatchOption-at_some _ _ c.unwrap.result c.unwrap.ensures least in
    let best = keys (λ a x q k. search (rules, tests)) in
    chosen (λ i. targets (g.M.Model.meaning i.model.now) i.s i.next) p _ (g.M.Model.lawful c.args.model.now) _ (rw from c.of.ensures) whole (round_of c.args.rank.now) _ some (λ k. search (rules, tests))
