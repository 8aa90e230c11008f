use Rattle.std.proofs.Common.{◌+◌, ◌*◌, ◌<◌, ◌≤◌, arith, rules, tests}
use Rattle.std.specs.List.{between}
use Rattle.std.proofs.lemmas.Iterator.{cases_from_all, YieldsList-from_slice}
use Rattle.sheet.proofs.Places.{row_below}
use Rattle.sheet.proofs.Sound.{judged}
use Rattle.sheet.proofs.sheet.lent.Lent.degrees_only.Goals as goal

pub returns : goal.returns
returns c rs =
    let bytes = c.args.self.now.bytes.now in
    let n = c.args.self.now.sheet.now.size.states in
    let start = c.args.row * n in
    let top = c.args.self.now.sheet.now.levels in
    judged bytes start n top c.all.result (omega (arith, row_below c.args.row c.args.self.now.sheet.now.rows n c.requires, c.args.self.now.long))
    (cases_from_all _ _ _ (λ x. x ≤ top) (λ x. top < x) c.all.ensures.ran (YieldsList-from_slice (between start (start + n) bytes) cc) (λ x q k. search (rules, tests)) (λ x q k. search (rules, tests)))
