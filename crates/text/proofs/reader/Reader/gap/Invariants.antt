use Rattle.std.proofs.Common.{◌≡◌, length}
use Rattle.text.specs.Reads.{spaces}
use Rattle.text.proofs.reader.Reader.gap.Given as goal

abbrev pub invariant-loop-self : goal.invariant-loop-self
invariant-loop-self l = spaces l.self.rest.now ≡ spaces l.initial.self.rest.now

abbrev pub decreases-loop-self : goal.decreases-loop-self
decreases-loop-self l = length l.self.rest.now
