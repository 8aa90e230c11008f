use Rattle.std.proofs.Common.{◌&&◌, ltb, take}
use Rattle.model.specs.Meaning.{Least}
use Rattle.std.specs.List.{list_any}
use Rattle.model.specs.Tables.{is_step}
use Rattle.model.proofs.table.TableFiniteModel.least_step.Given as goal

-- the least step among the records passed
abbrev pub invariant-loop-e : goal.invariant-loop-e
invariant-loop-e l = Least (λ u. ltb u l.n && list_any (is_step l.s u) (take l.e-index l.self.steps.now)) l.t l.least
