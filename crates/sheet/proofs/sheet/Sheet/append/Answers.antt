use Rattle.std.proofs.Common.{◌∙◌, arith}
use lib.ListN.{get_or-replicate}
use Rattle.sheet.proofs.Writes.{same-written}
use Rattle.sheet.proofs.sheet.Sheet.append.Goals as goal

pub work_out-requires-clause-zero : goal.work_out-requires-clause-zero
work_out-requires-clause-zero g c s h = get_or-replicate 4096 s 0 0 (omega arith)

pub returns : goal.returns
returns g c rs = (rw c.used.ensures at c.write.ensures) ∙ same-written c.args.bytes.now _ c.args.self.now.size.states _ _ (c.work_out.ensures rs)
