use Rattle.std.proofs.Common.{rules}
use Rattle.sheet.specs.declared.kinds.Kind.TheVariants.{Prop, Or, And, Not, Imp}
use Rattle.sheet.proofs.Over.{kind_is}
use Rattle.sheet.proofs.sheet.lent.Known.degree_at.Goals as goal

pub returns-then-holds : goal.returns-then-holds
returns-then-holds g c rs = rw (kind_is c.args.self.now Prop c.in-Prop.is) (search rules)

pub returns-else-holds : goal.returns-else-holds
returns-else-holds g c rs = rw (kind_is c.args.self.now Prop c.in-Prop.is) (search rules)

pub returns-in-Or : goal.returns-in-Or
returns-in-Or g c rs = let ruled = c.by_operands.ensures rs in rw (kind_is c.args.self.now Or c.in-Or.is) (search rules)

pub returns-in-And : goal.returns-in-And
returns-in-And g c rs = let ruled = c.by_operands-in-And.ensures rs in rw (kind_is c.args.self.now And c.in-And.is) (search rules)

pub returns-in-Not : goal.returns-in-Not
returns-in-Not g c rs = let ruled = c.by_operands-in-Not.ensures rs in rw (kind_is c.args.self.now Not c.in-Not.is) (search rules)

pub returns-in-Imp : goal.returns-in-Imp
returns-in-Imp g c rs = let ruled = c.by_operands-in-Imp.ensures rs in rw (kind_is c.args.self.now Imp c.in-Imp.is) (search rules)
