use Rattle.std.proofs.Common.{◌≡◌, cond, eqb, ◌∙◌, refl, subst, rules, tests, arith}
use Rattle.std.proofs.lemmas.Iterator.{YieldsList-from_range}
use Rattle.std.proofs.lemmas.Iterator.Search.{any_from_yields_List}
use Rattle.std.proofs.lemmas.Bool.Decides.{nat_tests}
use Rattle.std.specs.List.{list_any, range_with_len}
use Rattle.model.specs.Below.{some}
use Rattle.model.specs.Pools.{digit}
use Rattle.model.proofs.Below.{list_any-below}
use Rattle.model.proofs.pool.PoolFiniteModel.holds.Goals as goal
use Rattle.model.proofs.pool.PoolFiniteModel.holds.Goals.{then-p-eq0, else-p-eq0}

pub returns : goal.returns
returns c =
    let k = c.args.self.now.buffers in
    let sought : c.if-p-eq0.sought ≡ cond (eqb c.args.p 0) 3 0 =
    elim c.if-p-eq0.branch [ then-p-eq0 w ↦ grind (arith, nat_tests) | else-p-eq0 w ↦ grind (arith, nat_tests) ] in
    let found : c.any.result ≡ list_any (λ i. eqb (digit i c.args.s) c.if-p-eq0.sought) (range_with_len 0 k) =
    any_from_yields_List (λ i. eqb (digit i c.args.s) c.if-p-eq0.sought) _ _ _ c.any.ensures.ran (YieldsList-from_range 0 k k refl (omega arith)) (λ x b q h. search (rules, tests)) in
    let answer : c.any.result ≡ some k (λ i. eqb (digit i c.args.s) (cond (eqb c.args.p 0) 3 0)) =
    subst (λ n. c.any.result ≡ some k (λ i. eqb (digit i c.args.s) n)) sought (found ∙ list_any-below (λ i. eqb (digit i c.args.s) c.if-p-eq0.sought) k) in
    grind (arith, nat_tests)
