use Rattle.std.proofs.Common.{◌≡◌, Result, refl, ◌∙◌}
use Rattle.model.specs.Faults.{Refusal}
use Rattle.sheet.specs.Calls.{and_then, entering, formed, readable}
use Rattle.sheet.specs.States.{seen}
use Rattle.sheet.proofs.Scaled.{on_scale}
use Rattle.sheet.proofs.Exits.{refused, stops, goes}
use Rattle.sheet.proofs.Over.{same, onward, earlier}
use Rattle.sheet.proofs.sheet.Sheet.check.Given.{Over}
use Rattle.sheet.proofs.sheet.Sheet.check.Goals as goal
use Rattle.sheet.proofs.sheet.Sheet.check.Goals.{In_ok-lent}

-- once size, model and buffers have passed, the row decides
past : (g : Over) (c : In_ok-lent g) {z : Result Unit Refusal} → let s = seen c.args.self.now c.args.rows.now c.args.bytes.now in
    z ≡ and_then (formed s c.args.row) (readable s c.args.row) → z ≡ entering (g.M.Model.meaning c.args.model.now) (g.S.Scale.grades c.args.scale.now) s c.args.row
past g c rest = goes (c.in_ok-fits.ensures.exact c.args.rows.now c.args.bytes.now) (goes c.in_ok-walkable.ensures.exact (goes c.in_ok-lent.ensures.exact rest))

pub returns-in_err-fits-clause-exact : goal.returns-in_err-fits-clause-exact
returns-in_err-fits-clause-exact g c = refused _ _ c.from_residual.ensures.1 (stops _ (c.in_err-fits.ensures.exact c.args.rows.now c.args.bytes.now))

pub returns-in_err-walkable-clause-exact : goal.returns-in_err-walkable-clause-exact
returns-in_err-walkable-clause-exact g c =
    refused _ _ c.from_residual-in_err-walkable.ensures.1 (goes (c.in_ok-fits.ensures.exact c.args.rows.now c.args.bytes.now) (stops _ c.in_err-walkable.ensures.exact))

pub returns-in_err-lent-clause-exact : goal.returns-in_err-lent-clause-exact
returns-in_err-lent-clause-exact g c =
    refused _ _ c.from_residual-in_err-lent.ensures.1 (goes (c.in_ok-fits.ensures.exact c.args.rows.now c.args.bytes.now) (goes c.in_ok-walkable.ensures.exact (stops _ c.in_err-lent.ensures.exact)))

pub returns-in_err-known-clause-exact : goal.returns-in_err-known-clause-exact
returns-in_err-known-clause-exact g c =
    refused _ _ c.from_residual-in_err-known.ensures.1 (past g (goal.at.returns-in_err-known-clause-exact g c).In_ok-lent
    (stops _ (rw c.in_ok-lent.ensures.known.1.sheet at (c.in_err-known.ensures.exact c.args.rows.now))))

pub returns-in_err-read-clause-exact : goal.returns-in_err-read-clause-exact
returns-in_err-read-clause-exact g c =
    refused _ _ c.from_residual-in_err-read.ensures.1 (past g (goal.at.returns-in_err-read-clause-exact g c).In_ok-lent
    (goes (rw c.in_ok-lent.ensures.known.1.sheet at (c.in_ok-known.ensures.exact c.args.rows.now)) (c.in_err-read.ensures c.args.rows.now ∙ same readable _ _ _ _ c.args.rows.now (onward _ _ _ _ _ c.in_ok-known.ensures.known c.in_ok-lent.ensures.known.1))))

pub returns-clause-known : goal.returns-clause-known
returns-clause-known g c =
    let sizes = c.in_ok-fits.ensures.known refl in
    let stands = onward _ _ _ _ _ c.in_ok-known.ensures.known c.in_ok-lent.ensures.known.1 in
    let on = on_scale c.args.self.now c.args.rows.now c.args.bytes.now c.args.row sizes (c.in_ok-read.ensures c.args.rows.now ∙ same readable _ _ _ _ c.args.rows.now stands) in
    (record { fits = sizes; total = c.in_ok-walkable.ensures.means.1; room = c.in_ok-lent.ensures.known.0; earlier = earlier _ _ _ _ stands; first = on.0; second = on.1 }, stands)

pub returns-clause-exact : goal.returns-clause-exact
returns-clause-exact g c =
    past g (goal.at.returns-clause-exact g c).In_ok-lent
    (goes (rw c.in_ok-lent.ensures.known.1.sheet at (c.in_ok-known.ensures.exact c.args.rows.now)) (c.in_ok-read.ensures c.args.rows.now ∙ same readable _ _ _ _ c.args.rows.now (onward _ _ _ _ _ c.in_ok-known.ensures.known c.in_ok-lent.ensures.known.1)))
