-- A list of one value has it at each index, and past its end where it is also the default.
use Rattle.std.proofs.Common.{◌≡◌, ℕ, get_or, replicate, ⊎_elim, arith}
use lib.ListN.{get_or-replicate, length-replicate}
use Rattle.std.proofs.lemmas.List.{get_or_past}
use Rattle.std.proofs.lemmas.Bool.{cases_lt}

pub filled : {A : Type 0} (n s : ℕ) (a : A) → get_or (replicate n a) s a ≡ a
filled n s a =
    ⊎_elim (λ l. get_or-replicate n s a a l) (λ l. get_or_past (replicate n a) s a (let z = length-replicate n a in omega arith)) (cases_lt s n)
