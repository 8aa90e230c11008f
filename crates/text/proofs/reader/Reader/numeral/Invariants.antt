use Rattle.std.proofs.Common.{◌≡◌, ◌-◌, ◌<◌, ◌≤◌}
use Rattle.text.specs.Reads.{digits_at}
use Rattle.text.proofs.reader.Reader.numeral.Given as goal

-- after counter digits more
abbrev pub invariant-loop : goal.invariant-loop
invariant-loop l =
    (digits_at (3 - l.counter) l.n l.self.rest.now ≡ digits_at 3 l.initial.n l.initial.self.rest.now)
    × (l.n < 10000) × (l.counter ≤ 2 → l.n < 1000) × (l.counter ≤ 1 → l.n < 100) × (l.counter ≤ 0 → l.n < 10)
