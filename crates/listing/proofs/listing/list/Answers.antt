use Rattle.std.proofs.Common.{arith}
use Rattle.std.proofs.lemmas.Grind.{common_steps}
use Rattle.listing.proofs.Language.{by_language}
use Rattle.listing.proofs.Listed.{by_truth}
use Rattle.listing.proofs.listing.list.Goals as goal

pub returns-clause-exact : goal.returns-clause-exact
returns-clause-exact c = grind (arith, common_steps)

pub returns-clause-language : goal.returns-clause-language
returns-clause-language c = by_language _ _ _ _ _ (returns-clause-exact c)

pub returns-clause-truth : goal.returns-clause-truth
returns-clause-truth c = by_truth _ _ _ _ _ (returns-clause-exact c)
