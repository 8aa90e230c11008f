use Rattle.std.proofs.Common.{rules}
use Rattle.sheet.proofs.Laws.{degree_is_true}
use Rattle.sheet.proofs.sheet.Sheet.degree.Goals as goal

pub returns-then-row-self-clause-exact : goal.returns-then-row-self-clause-exact
returns-then-row-self-clause-exact c rs = search rules

pub returns-then-row-self-clause-law : goal.returns-then-row-self-clause-law
returns-then-row-self-clause-law c rs = degree_is_true _ _ _ _ (returns-then-row-self-clause-exact c rs)

pub returns-then-bytes-used-clause-exact : goal.returns-then-bytes-used-clause-exact
returns-then-bytes-used-clause-exact c rs = search rules

pub returns-then-bytes-used-clause-law : goal.returns-then-bytes-used-clause-law
returns-then-bytes-used-clause-law c rs = degree_is_true _ _ _ _ (returns-then-bytes-used-clause-exact c rs)

pub returns-then-byte-self-clause-exact : goal.returns-then-byte-self-clause-exact
returns-then-byte-self-clause-exact c rs = search rules

pub returns-then-byte-self-clause-law : goal.returns-then-byte-self-clause-law
returns-then-byte-self-clause-law c rs = degree_is_true _ _ _ _ (returns-then-byte-self-clause-exact c rs)

pub returns-clause-exact : goal.returns-clause-exact
returns-clause-exact c rs = search rules

pub returns-clause-law : goal.returns-clause-law
returns-clause-law c rs = degree_is_true _ _ _ _ (returns-clause-exact c rs)
