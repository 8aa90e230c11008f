use Rattle.logic.proofs.Fixed.{fixed_points_found}
use Rattle.logic.proofs.theorems.fixed_points_found.Goals as goal

pub returns : goal.returns
returns c = fixed_points_found
