use Rattle.std.proofs.Common.{rules, ◌≡◌}
use Rattle.engine.specs.declared.operator.Operator.TheVariants.{Next}
use Rattle.engine.proofs.search.finds.Goals as goal

pub returns-then-eq : goal.returns-then-eq
returns-then-eq g c = let e : c.args.operator ≡ Next = search rules in rw e c.steps_into.ensures
