use Rattle.std.proofs.Common.{rules}
use Rattle.sheet.specs.Walking.{WantedBy, Seeks}
use Rattle.sheet.proofs.Over.{moved}
use Rattle.sheet.proofs.WalkLaw.{walk_is_true}
use Rattle.sheet.proofs.Walked.{sought, after_checks}
use Rattle.sheet.proofs.sheet.Sheet.walk.Goals as goal

pub returns-in_err-check_walk-clause-exact : goal.returns-in_err-check_walk-clause-exact
returns-in_err-check_walk-clause-exact g c = search rules

pub returns-in_err-check_walk-clause-law : goal.returns-in_err-check_walk-clause-law
returns-in_err-check_walk-clause-law g c =
    walk_is_true _ (g.M.Model.lawful c.args.model.now) _ (g.S.Scale.lawful c.args.scale.now) _ _ _ _ _ _ _ (returns-in_err-check_walk-clause-exact g c)

pub returns-clause-exact : goal.returns-clause-exact
returns-clause-exact g c =
    let m = g.M.Model.meaning c.args.model.now in
    let d = g.S.Scale.grades c.args.scale.now in
    let seeks =
    moved (λ t r. Seeks m (WantedBy d t r c.args.level) c.args.state c.args.out.now c.seek.new.out c.seek.result) _ _ _ _ c.args.rows.now c.in_ok-check_walk.ensures.known.1 (c.seek.ensures c.args.rows.now) in
    rw c.ok_or.ensures.value (after_checks _ _ _ _ _ _ _ c.in_ok-check_walk.ensures.exact (sought m c.args.state c.args.out.now c.seek.new.out _ c.seek.result seeks))

pub returns-clause-law : goal.returns-clause-law
returns-clause-law g c =
    walk_is_true _ (g.M.Model.lawful c.args.model.now) _ (g.S.Scale.lawful c.args.scale.now) _ _ _ _ _ _ _ (returns-clause-exact g c)
