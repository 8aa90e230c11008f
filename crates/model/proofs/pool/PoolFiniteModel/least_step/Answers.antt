use Rattle.std.proofs.Common.{◌≡◌, ℕ, ◌^◌, ◌<◌, Bool, ◌&&◌, ◌||◌, ltb, [], ◌∷◌, ◌++◌, Option, sym, refl, subst, rules, arith}
use Rattle.std.specs.List.{range_with_len}
use Rattle.std.proofs.lemmas.Bool.Decides.{nat_tests}
use Rattle.std.proofs.lemmas.Fn.{fold_over}
use Rattle.std.proofs.iter.Yields.{nat_range_steps}
use Rattle.std.proofs.lemmas.Iterator.{YieldsList-from_range}
use Rattle.model.specs.Below.{some}
use Rattle.model.specs.Lesser.{lesser_of}
use Rattle.model.specs.Meaning.{Least}
use Rattle.model.specs.Pools.{leads, pooled}
use Rattle.model.specs.declared.pool.Thread.TheVariants.{A, B}
use Rattle.model.proofs.Limited.{limited-least}
use Rattle.model.proofs.Pooled.{pool_whole}
use Rattle.model.proofs.Ranged.{reached, least_more, least_ranged}
use Rattle.model.proofs.pool.PoolFiniteModel.least_step.Goals as goal

pub returns : goal.returns
returns c =
    let k = c.args.self.now.buffers in let g = c.args.self.now.guard in let s = c.args.s in
    let goes : ℕ → ℕ → Bool = λ i u. leads k g A i s u || leads k g B i s u in
    let lt : s < (pooled k g).states = omega arith in
    let whole = pool_whole k g s lt in
    let found : Least (reached (4 ^ k) c.args.t goes (range_with_len 0 k)) c.args.t c.fold.result =
    fold_over nat_range_steps (λ i. i) _ (λ is r. Least (reached (4 ^ k) c.args.t goes is) c.args.t r) _
    (λ is least i r f j q.
    let m : (a : Option ℕ) × (b : Option ℕ) × Least (λ u. ltb u (4 ^ k) && leads k g A i s u) c.args.t a × Least (λ u. ltb u (4 ^ k) && leads k g B i s u) c.args.t b × (r ≡ lesser_of (lesser_of least a) b) = search rules in (
      subst (Least (reached (4 ^ k) c.args.t goes (is ++ i ∷ [])) c.args.t) (sym m.4)
          (least_more (4 ^ k) c.args.t goes (leads k g A i s) (leads k g B i s) is i least m.0 m.1 (λ u. refl) j m.2 m.3),
      search rules,
    ))
    (record { start = 0; end = k }) _ _ _ (YieldsList-from_range 0 k k refl (omega arith)).runs (λ u h e. grind (arith, nat_tests)) c.fold.ensures.ran in
    limited-least (pooled k g) (λ u. some k (λ j. goes j u)) s c.args.t (4 ^ k) c.fold.result (λ u. refl) whole.1 (subst (λ n. s < n) (sym whole.1) lt)
    (least_ranged (4 ^ k) c.args.t goes k c.fold.result found)
