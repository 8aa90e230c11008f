use Rattle.std.proofs.Common.{◌≡◌, ℕ, ◌<◌}
use Rattle.text.specs.Lines.{nothing, lines_at, spare}
use Rattle.text.specs.Scripts.{said_in}
use Rattle.text.proofs.reader.Reader.lines.Given as goal

-- what is left gives the same, by as many lines fewer as have been read
abbrev pub invariant-loop-source : goal.invariant-loop-source
invariant-loop-source l =
    (k : ℕ) × (spare (said_in l.body) < k)
    × (lines_at l.source k (said_in l.body) l.self.rest.now ≡ lines_at l.source 2057 nothing l.initial.self.rest.now)

abbrev pub decreases-loop-source : goal.decreases-loop-source
decreases-loop-source l = spare (said_in l.body)
