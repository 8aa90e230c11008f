use Rattle.std.proofs.Common.{◌≡◌, false, take}
use Rattle.std.specs.List.{list_any}
use Rattle.model.specs.Tables.{is_holding}
use Rattle.model.proofs.table.TableFiniteModel.holds.Given as goal

-- no holding passed yet is the one asked for
abbrev pub invariant-loop-h : goal.invariant-loop-h
invariant-loop-h l = list_any (is_holding l.p l.s) (take l.h-index l.self.holdings.now) ≡ false
