use Rattle.std.proofs.Common.{◌≡◌, add-one, Option, Some, None, refl, arith, ◌∙◌}
use Rattle.std.proofs.lemmas.List.{get_or-take, length-take-le}
use Rattle.std.specs.Option.{IsSome, MatchOption}
use Rattle.engine.specs.Marks.{round_of}
use Rattle.engine.proofs.Looping.{closed}
use Rattle.engine.proofs.Trails.{come_to, longer, full}
use Rattle.engine.proofs.search.lasso.Goals as goal

pub returns-in-Some : goal.returns-in-Some
returns-in-Some g c =
    let few = c.states-n.ensures in
    closed (g.M.Model.meaning c.args.model.now) (round_of c.args.rank.now) _ _ _ _ _ _ c.loop-i.invariant (omega arith) (grind (arith, get_or-take, length-take-le))

pub least_step-t-requires : goal.least_step-t-requires
least_step-t-requires g c =
    c.requires.total c.loop-i.t
    (rw (come_to c.loop-i.out c.loop-i.i c.loop-i.t c.loop-i.i (omega arith)) at (c.loop-i.invariant.inside c.loop-i.i (omega arith)))

pub loop-i-preserved : goal.loop-i-preserved
loop-i-preserved g c =
    let m = g.M.Model.meaning c.args.model.now in
    let go = c.least_step-t.ensures in
    rw (add-one, c.from-in-loop-i.ensures)
    (longer m _ _ _ _ _ _ c.loop-i.invariant (λ k l e. c.in_default.ensures k (grind (arith, length-take-le)) (get_or-take _ _ k 0 (omega arith) ∙ e)) _ (omega arith) go
    ((g.M.Model.lawful c.args.model.now).steps_to _ _ go.step))

-- a value, since there is not none
found : {T : Type 0} (r : Option T) (P : Type 0) (Q : T → Type 0) → MatchOption r P Q → (P → ⊥) → IsSome r
found None P Q h never = absurd (never h)
found (Some x) P Q h never = refl

pub unwrap-p-requires : goal.unwrap-p-requires
unwrap-p-requires g c =
    found _ _ _ c.place_of-2.ensures
    (λ none. full (g.M.Model.meaning c.args.model.now) _ _ _ _ _ _ c.loop-i.invariant
    (λ k l e. none k (grind (arith, length-take-le)) (get_or-take _ _ k 0 (omega arith) ∙ e)) (omega (arith, c.states-n.ensures)))

pub returns : goal.returns
returns g c =
    let few = c.states-n.ensures in
    let all : c.loop-i.i ≡ c.states-n.result = omega arith in
    closed (g.M.Model.meaning c.args.model.now) (round_of c.args.rank.now) _ _ _ _ _ _ (rw all at c.loop-i.invariant) (omega arith)
    (grind (arith, get_or-take, length-take-le))
