use Rattle.std.proofs.Common.{◌≡◌, drop}
use Rattle.listing.specs.Runs.{enter_all}
use Rattle.listing.specs.Sheets.{state}
use Rattle.listing.proofs.asking.Desk.enter_all.Given as goal

abbrev pub invariant-loop-row : goal.invariant-loop-row
invariant-loop-row g l =
    (enter_all (g.M.Model.meaning l.self.model.now) (g.S.Scale.grades l.self.scale.now) (state l.self) (drop l.row-index l.rows)
    ≡ enter_all (g.M.Model.meaning l.initial.self.model.now) (g.S.Scale.grades l.initial.self.scale.now) (state l.initial.self) l.rows)
    × (l.self.model.now ≡ l.initial.self.model.now) × (l.self.scale.now ≡ l.initial.self.scale.now)
