use Rattle.std.proofs.Common.{ap, sym, ◌∙◌, arith}
use Rattle.std.proofs.lemmas.Bool.{lt-leb}
use Rattle.engine.proofs.Satisfying.{no_members}
use Rattle.sheet.proofs.Over.{second_there, second_missing}
use Rattle.sheet.proofs.sheet.lent.Known.second_reaching.Goals as goal

pub returns-in-Some : goal.returns-in-Some
returns-in-Some c rs s = rw (second_there c.args.self.now rs c.in-Some.b c.in-Some.is) (c.reaching.ensures rs s)

pub returns-in-None : goal.returns-in-None
returns-in-None c rs s =
    rw (second_missing c.args.self.now rs c.in-None.is)
    (ap (λ f. f s) (no_members c.of.result c.of.ensures) ∙ sym (lt-leb c.args.level 0 (omega arith)))
