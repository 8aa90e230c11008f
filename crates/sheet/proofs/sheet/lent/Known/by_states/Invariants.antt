use Rattle.std.proofs.Common.{◌≡◌, ℕ, ◌<◌, List, get_or}
use Rattle.sheet.specs.Calls.{degrees_of}
use Rattle.sheet.specs.Over.{state_of, row_of}
use Rattle.sheet.specs.declared.row.Row.{Row}
use Rattle.sheet.proofs.sheet.lent.Known.by_states.Given as goal

-- the states passed have their degrees
abbrev pub invariant-loop-s : goal.invariant-loop-s
invariant-loop-s g l =
    (rs : List Row) (k : ℕ) → k < l.s → get_or l.degrees.at k 0 ≡ degrees_of (g.M.Model.meaning l.model) (g.S.Scale.grades l.scale) (state_of l.self.lent rs) (row_of l.self) k
