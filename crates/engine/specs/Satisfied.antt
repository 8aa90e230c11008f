-- What the engine answers for a path row at one level.
use Rattle.std.specs.Prelude.{Bool, true, false}
use Rattle.logic.specs.Walks.{Quantifier, Operator as Asked}
use Rattle.logic.specs.Walks.Operator.{next, finally, globally, until, weak}
use Rattle.logic.specs.Walks.Quantifier.{some_walk, every_walk}
use Rattle.engine.specs.declared.operator.Operator.{Operator}
use Rattle.engine.specs.declared.operator.Operator.TheVariants.{Next, Finally, Globally, Until, Weak}

abbrev pub asked : Operator → Asked
asked Next = next
asked Finally = finally
asked Globally = globally
asked Until = until
asked Weak = weak

-- E, or else A
abbrev pub quantifier : Bool → Quantifier
quantifier true = some_walk
quantifier false = every_walk
