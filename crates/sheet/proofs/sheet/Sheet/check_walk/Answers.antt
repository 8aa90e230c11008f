use Rattle.std.proofs.Common.{◌≡◌, Result}
use Rattle.model.specs.Faults.{Refusal}
use Rattle.sheet.specs.Calls.{and_then}
use Rattle.sheet.specs.States.{seen}
use Rattle.sheet.specs.Walking.{record_of, asks_walks, operands_now, leveled, walking}
use Rattle.sheet.proofs.Exits.{refused, stops, goes, in_groups}
use Rattle.sheet.proofs.sheet.Sheet.check_walk.Given.{Over}
use Rattle.sheet.proofs.sheet.Sheet.check_walk.Goals as goal
use Rattle.sheet.proofs.sheet.Sheet.check_walk.Goals.{In_ok-lent}

-- once size, model and buffers have passed, the rest decides
past : (g : Over) (c : In_ok-lent g) {z : Result Unit Refusal} → let s = seen c.args.self.now c.args.rows.now c.args.bytes.now in
    z ≡ and_then (and_then (asks_walks (record_of s c.args.row)) (operands_now s c.args.row (record_of s c.args.row))) (leveled s c.args.level c.args.room)
    → z ≡ walking (g.M.Model.meaning c.args.model.now) (g.S.Scale.grades c.args.scale.now) s c.args.row c.args.state c.args.level c.args.room
past g c rest = rw in_groups (goes (c.in_ok-fits.ensures.exact c.args.rows.now c.args.bytes.now) (goes c.in_ok-walkable.ensures.exact (goes c.in_ok-lent.ensures.exact rest)))

pub returns-in_err-fits-clause-exact : goal.returns-in_err-fits-clause-exact
returns-in_err-fits-clause-exact g c = refused _ _ c.from_residual.ensures.1 (stops _ (c.in_err-fits.ensures.exact c.args.rows.now c.args.bytes.now))

pub returns-in_err-walkable-clause-exact : goal.returns-in_err-walkable-clause-exact
returns-in_err-walkable-clause-exact g c =
    refused _ _ c.from_residual-in_err-walkable.ensures.1 (goes (c.in_ok-fits.ensures.exact c.args.rows.now c.args.bytes.now) (stops _ c.in_err-walkable.ensures.exact))

pub returns-in_err-lent-clause-exact : goal.returns-in_err-lent-clause-exact
returns-in_err-lent-clause-exact g c =
    refused _ _ c.from_residual-in_err-lent.ensures.1 (rw in_groups (goes (c.in_ok-fits.ensures.exact c.args.rows.now c.args.bytes.now) (goes c.in_ok-walkable.ensures.exact (stops _ c.in_err-lent.ensures.exact))))

pub returns-in_err-known-clause-exact : goal.returns-in_err-known-clause-exact
returns-in_err-known-clause-exact g c =
    refused _ _ c.from_residual-in_err-known.ensures.1 (past g (goal.at.returns-in_err-known-clause-exact g c).In_ok-lent
    (stops _ (rw (c.in_ok-lent.ensures.known.4.sheet, c.in_ok-lent.ensures.known.4.bytes, c.from.ensures) at (c.in_err-known.ensures.exact c.args.rows.now))))

pub returns-in_err-has_level-clause-exact : goal.returns-in_err-has_level-clause-exact
returns-in_err-has_level-clause-exact g c =
    refused _ _ c.from_residual-in_err-has_level.ensures.1 (past g (goal.at.returns-in_err-has_level-clause-exact g c).In_ok-lent
    (goes (rw (c.in_ok-lent.ensures.known.4.sheet, c.in_ok-lent.ensures.known.4.bytes, c.from.ensures) at (c.in_ok-known.ensures.exact c.args.rows.now)) (c.in_err-has_level.ensures.exact c.args.rows.now c.args.bytes.now)))

pub returns-clause-exact : goal.returns-clause-exact
returns-clause-exact g c =
    past g (goal.at.returns-clause-exact g c).In_ok-lent
    (goes (rw (c.in_ok-lent.ensures.known.4.sheet, c.in_ok-lent.ensures.known.4.bytes, c.from.ensures) at (c.in_ok-known.ensures.exact c.args.rows.now)) (c.in_ok-has_level.ensures.exact c.args.rows.now c.args.bytes.now))
