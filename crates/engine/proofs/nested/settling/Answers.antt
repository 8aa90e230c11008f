use Rattle.engine.proofs.Nesting.{settling_full}
use Rattle.engine.proofs.nested.settling.Goals as goal

pub returns : goal.returns
returns g c = settling_full _ _ _ _ _ (g.M.Model.lawful c.args.model.now).few_states c.of-all.ensures _ _ c.remaining_into.ensures
