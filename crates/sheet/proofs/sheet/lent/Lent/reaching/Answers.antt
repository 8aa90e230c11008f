use Rattle.std.proofs.Common.{◌+◌, ◌*◌, get_or, arith, rules}
use Rattle.sheet.proofs.Marked.{reached}
use Rattle.sheet.proofs.sheet.lent.Lent.reaching.Goals as goal

pub returns : goal.returns
returns c rs s =
    let x = c.args.self.now in
    reached (λ k. get_or x.bytes.now (c.args.row * x.sheet.now.size.states + k) 0) c.args.level x.sheet.now.size.states c.by.result
    (λ k h. let e = c.by.ensures.ruled k h (omega arith) in search rules)
    c.by.ensures.others (omega arith) s
