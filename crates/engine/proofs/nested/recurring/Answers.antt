use Rattle.engine.proofs.Nesting.{recurring_full}
use Rattle.engine.proofs.nested.recurring.Goals as goal

pub returns : goal.returns
returns g c = recurring_full _ _ _ _ _ (g.M.Model.lawful c.args.model.now).few_states c.of-all.ensures _ c.returning_into.ensures
