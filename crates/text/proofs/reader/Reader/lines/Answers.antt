use Rattle.std.proofs.Common.{◌-◌, ◌<◌, length, sym, ap, ◌∙◌, arith, rules}
use Rattle.text.specs.Lines.{lines_at}
use Rattle.text.specs.Reads.{and_then}
use Rattle.text.specs.Scripts.{said_in}
use Rattle.text.proofs.Turns.{lines_more}
use Rattle.text.proofs.reader.Reader.lines.Goals as goal

pub loop-source-init : goal.loop-source-init
loop-source-init c = (2057, search rules, ap (λ h. lines_at c.args.source 2057 h c.args.self.now.rest.now) c.requires)

pub loop-source-preserved : goal.loop-source-preserved
loop-source-preserved c =
    let told = c.in_ok-line.ensures in
    let k = c.loop-source.invariant.0 in
    let more : 0 < length c.loop-source.self.rest.now = search rules in
    let e = lines_more c.args.source k (said_in c.loop-source.body) c.loop-source.self.rest.now more (omega (arith, c.loop-source.invariant.1)) in
    (k - 1, omega (arith, c.loop-source.invariant.1, told.more), ap (λ g. and_then g (lines_at c.args.source (k - 1))) told.reads ∙ sym e ∙ c.loop-source.invariant.2)
