use Rattle.logic.proofs.Values.{truth_unique}
use Rattle.logic.proofs.theorems.truth_unique.Goals as goal

pub returns : goal.returns
returns c = truth_unique
