use Rattle.std.proofs.Common.{◌≡◌, ℕ, ◌-◌, ◌<◌, List, get_or}
use Rattle.logic.specs.Satisfaction.{highest}
use Rattle.sheet.specs.Calls.{reaches}
use Rattle.sheet.specs.Over.{state_of, row_of}
use Rattle.sheet.specs.declared.row.Row.{Row}
use Rattle.sheet.proofs.sheet.lent.Known.by_levels.Given as goal

-- the levels passed are judged
abbrev pub invariant-loop-level : goal.invariant-loop-level
invariant-loop-level g l =
    (rs : List Row) (s : ℕ) → s < l.self.lent.sheet.now.size.states → get_or l.degrees.at s 0 ≡ highest (l.level - 1) (λ k. reaches (g.M.Model.meaning l.model) (g.S.Scale.grades l.scale) (state_of l.self.lent rs) (row_of l.self) k s)
