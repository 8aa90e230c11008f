use Rattle.grammar.proofs.Theorems.{read_where_lawful}
use Rattle.grammar.proofs.read_where_lawful.Goals as goal

pub returns : goal.returns
returns c = read_where_lawful
