use Rattle.grammar.proofs.Theorems.{form_fault_where_unfit}
use Rattle.grammar.proofs.form_fault_where_unfit.Goals as goal

pub returns : goal.returns
returns c = form_fault_where_unfit
