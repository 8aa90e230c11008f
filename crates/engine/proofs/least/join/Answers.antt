use Rattle.std.proofs.Common.{arith, rules}
use Rattle.std.proofs.lemmas.Grind.{common_steps}
use Rattle.engine.proofs.Growing.{before_kept}
use Rattle.engine.proofs.least.join.Goals as goal
use Rattle.engine.proofs.least.join.Goals.{then-joined-from+then-rule, else-joined-from, else-joined-from-via-then-joined-from+else-rule, else-joined-from-via-else-joined-from}

pub loop-s-preserved : goal.loop-s-preserved
loop-s-preserved g c = (
  λ f ruled.
      let h = c.loop-s.invariant.0 f ruled in
      let e = before_kept f _ _ _ _ _ h c.loop-s.invariant.1 (omega arith) in
      elim c.if-joined-from.branch [
        | then-joined-from+then-rule w ↦ let r = ruled _ _ _ w.rule.ensures in grind (arith, common_steps)
        | else-joined-from w ↦ elim w.else-joined-from.branch [
          | else-joined-from-via-then-joined-from+else-rule v ↦ let r = ruled _ _ _ v.rule.ensures in grind (arith, common_steps)
          | else-joined-from-via-else-joined-from v ↦ grind (arith, common_steps)
        ]
      ],
  grind (arith, common_steps),
)

pub returns : goal.returns
returns g c = λ f ruled. let h = c.loop-s.invariant.0 f ruled in search rules
