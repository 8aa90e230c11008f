use Rattle.std.proofs.Common.{◌≡◌, ◌≢◌, rules, tests, refl, sym, subst, arith}
use Rattle.std.proofs.lemmas.Iterator.{YieldsList-from_slice, first_from_find}
use Rattle.sheet.proofs.Table.{Complete, found_number}
use Rattle.sheet.proofs.kinds.KindTryFromU8.try_from.Goals as goal

pub returns : goal.returns
returns c =
    let table = c.iter.result.rest.now in
    let found = first_from_find _ _ c.find.result (λ x. x.number ≡ c.args.number) (λ x. x.number ≢ c.args.number) c.find.ensures.ran (YieldsList-from_slice table refl) (λ x q k. search (rules, tests)) (λ x q k. search (rules, tests)) in
    let t = found_number table c.args.number c.find.result (subst Complete (sym c.iter.ensures.rest) (record { kinds = refl; numbers = refl; number = refl; name = refl; operands = refl })) found in
    grind arith
