use Rattle.std.proofs.Common.{◌≡◌, ℕ, ◌+◌, ◌-◌, cond, sym, refl, ap, ◌∙◌, subst, arith}
use Rattle.std.proofs.lemmas.Bool.{and_from, eq-eqb, both_ways}
use Rattle.model.specs.Meaning.{Least}
use Rattle.model.specs.Pools.{digit, share, holder}
use Rattle.model.specs.declared.pool.Thread.{Thread}
use Rattle.model.proofs.Least.{least_only}
use Rattle.model.proofs.Pooled.{few, moves_to, leads_only, leads_there}
use Rattle.model.proofs.pool.Pool.turn.Goals as goal

-- the digit moved to, in the definition's words
turned : (x : Thread) (d d' e : ℕ) → d ≡ d' → e ≡ cond (holder x d) (d - share x) (d + share x) → e ≡ cond (holder x d') (d' - share x) (d' + share x)
turned x d d' e same h = h ∙ ap (λ n. cond (holder x n) (n - share x) (n + share x)) same

pub with_digit-u-requires : goal.with_digit-u-requires
with_digit-u-requires c =
    let m = moves_to c.args.x (digit c.args.i c.args.s) c.moved-e.result (omega arith) (turned _ _ _ _ c.digit_of.ensures c.moved-e.ensures) in
    let f = few c.args.self.now.buffers c.requires.1 in
    (omega arith, omega arith, m.1)

pub returns : goal.returns
returns c =
    let k = c.args.self.now.buffers in let g = c.args.self.now.guard in
    let t = turned _ _ _ _ c.digit_of.ensures c.moved-e.ensures in
    subst (Least _ c.args.t) (sym c.then_some.ensures)
    (least_only _ c.args.t c.with_digit-u.result _ refl
    (leads_there k g c.args.x c.args.i c.args.s c.moved-e.result t c.with_digit-u.result c.requires.0 c.requires.2 c.with_digit-u.ensures
    (λ guarded e. both_ways _ (sym c.if-forbids.ensures) (and_from _ _ (eq-eqb _ _ guarded) (eq-eqb _ _ e))))
    (λ v p. leads_only k g c.args.x c.args.i c.args.s c.moved-e.result t c.with_digit-u.result c.requires.0 c.requires.2 c.with_digit-u.ensures v p))
