use Rattle.std.proofs.Common.{◌≡◌, ◌≢◌, rules, tests, refl, sym, subst}
use Rattle.std.specs.Option.{IsSome, IfSome}
use Rattle.std.proofs.lemmas.Iterator.{YieldsList-from_slice, first_from_find}
use Rattle.sheet.specs.Kinds.{Tells}
use Rattle.sheet.proofs.Table.{Complete, found_kind}
use Rattle.sheet.proofs.kinds.Kind.info.Goals as goal
use Rattle.sheet.proofs.kinds.Kind.info.Goals.{After-find}

found : (c : After-find) → IsSome c.find.result × IfSome c.find.result (λ x. Tells c.args.self x.now)
found c =
    let table = c.iter.result.rest.now in
    found_kind table c.args.self c.find.result (subst Complete (sym c.iter.ensures.rest) (record { kinds = refl; numbers = refl; number = refl; name = refl; operands = refl }))
    (first_from_find _ _ c.find.result (λ x. x.kind ≡ c.args.self) (λ x. x.kind ≢ c.args.self) c.find.ensures.ran (YieldsList-from_slice table refl) (λ x q k. search (rules, tests)) (λ x q k. search (rules, tests)))

pub unwrap-requires : goal.unwrap-requires
unwrap-requires c = (found c).0

pub returns : goal.returns
returns c = rw c.unwrap.ensures at (found (goal.at.returns c).After-find).1
