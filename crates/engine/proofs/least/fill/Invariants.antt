use Rattle.logic.specs.Sets.{Set}
use Rattle.engine.specs.Rounded.{EachRound, Grows, Joins}
use Rattle.engine.proofs.Growing.{Past}
use Rattle.engine.proofs.least.fill.Given as goal

abbrev pub invariant-loop-k : goal.invariant-loop-k
invariant-loop-k g l =
    let n = (g.M.Model.meaning l.model).states in
    (f : Set → Set) → Grows n f → EachRound n f (goal.F-post g l.round) → Joins n f l.joined l.k × Past n l.joined l.k
