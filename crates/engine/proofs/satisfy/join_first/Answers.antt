use Rattle.std.proofs.Common.{◌≡◌, Bool, true, false, ltb, get_or, if◌then◌else◌, ℕ, sym, refl, ◌∙◌, rules, arith}
use Rattle.std.proofs.lemmas.Grind.{get_or_default_zero}
use Rattle.engine.specs.Marks.{members, round_of}
use Rattle.engine.proofs.satisfy.join_first.Goals as goal

-- round 0 is before round 1, and never is not
first : (b : Bool) (x : ℕ) → x ≡ (if b then 0 else 65535) → ltb x 1 ≡ b
first true x e = rw e refl
first false x e = rw e refl

pub returns : goal.returns
returns g c =
    λ s q.
    let few = (g.M.Model.lawful c.args.model.now).few_states in
    let h = c.by.ensures.ruled s (omega (arith, c.states.ensures)) (omega (arith, c.states.ensures)) in
    let e : get_or c.by.result.at s 65535 ≡ (if members c.args.set.now s then 0 else 65535) = search rules in
    first (members c.args.set.now s) (round_of c.by.result s) (sym (get_or_default_zero c.by.result.at s 65535 (omega arith)) ∙ e)
