use Rattle.std.proofs.Common.{refl}
use Rattle.logic.proofs.Worked.{table_true, broken_at_four, unbroken_at_three}
use Rattle.logic.proofs.trials.trials.Goals as goal

pub returns : goal.returns
returns c = record { value = refl; true_of_walks = table_true; broken = broken_at_four; unbroken = unbroken_at_three }
