use Rattle.std.proofs.Common.{◌≤◌, length, get_or, ap, ◌∙◌, arith}
use Rattle.sheet.specs.Calls.{written}
use Rattle.sheet.proofs.Writes.{copied, front}
use Rattle.sheet.proofs.sheet.working.write.Goals as goal

pub returns : goal.returns
returns c =
    let of = c.args.degrees.now.at in
    let n = c.from-n.result in
    let whole : n ≤ length of = omega arith in
    let part = front of c.copy_from_slice.new.self n c.copy_from_slice.ensures.after whole in
    copied c.args.bytes.now c.copy_from_slice.new.self c.args.start n _ (λ s. get_or of s 0) (omega arith) (omega arith) part.0 part.1
    ∙ ap (λ n. written c.args.bytes.now c.args.start n (λ s. get_or of s 0)) c.from-n.ensures
