use Rattle.engine.proofs.satisfy.satisfy.Goals as goal

pub returns-in-Finally : goal.returns-in-Finally
returns-in-Finally g c = rw c.in-Finally.is c.sometime.ensures

pub returns-in-Until : goal.returns-in-Until
returns-in-Until g c = rw c.in-Until.is c.least_set.ensures
