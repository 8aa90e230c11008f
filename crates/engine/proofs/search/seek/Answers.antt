use Rattle.std.proofs.Common.{◌≡◌, rules}
use Rattle.logic.specs.Sets.{full}
use Rattle.engine.specs.declared.operator.Operator.TheVariants.{Next}
use Rattle.engine.proofs.Nesting.{pre_alike}
use Rattle.engine.proofs.Seeking.{by_remaining, by_returning}
use Rattle.engine.proofs.search.seek.Goals as goal

pub returns-then-eq : goal.returns-then-eq
returns-then-eq g c =
    let e : c.args.operator ≡ Next = search rules in
    rw e (record {
      guides = c.join_first.ensures;
      find = λ s q. pre_alike (g.M.Model.meaning c.args.model.now) full _ _ c.join_first.ensures s;
    })

pub returns-then-task : goal.returns-then-task
returns-then-task g c = by_remaining _ _ _ c.args.operator (λ e. search rules) c.if-task.true c.remaining.ensures

pub returns-else-task : goal.returns-else-task
returns-else-task g c = by_returning _ _ _ c.args.operator (λ e. search rules) c.if-task.false c.returning.ensures
