use Rattle.std.proofs.Common.{◌≡◌, ◌+◌, length, drop}
use Rattle.text.specs.Scripts.{said_in}
use Rattle.listing.specs.Runs.{ask_from, asks_on}
use Rattle.listing.specs.Sheets.{state}
use Rattle.listing.proofs.asking.Desk.ask_all.Given as goal

-- what is left gives the same, and each ask has one answer
abbrev pub invariant-loop-i : goal.invariant-loop-i
invariant-loop-i g l =
    (ask_from (g.M.Model.meaning l.self.model.now) (g.S.Scale.grades l.self.scale.now) l.body.rows.items (state l.self) l.entered (l.first + l.i) l.done.items (drop l.i l.body.asks.items)
    ≡ asks_on (g.M.Model.meaning l.initial.self.model.now) (g.S.Scale.grades l.initial.self.scale.now) (said_in l.body) (state l.initial.self))
    × (length l.done.items ≡ l.i)
