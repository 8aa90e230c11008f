use Rattle.std.proofs.Common.{◌≡◌, ℕ, zero, suc, ◌<◌, ◌≤◌, ltb, List, [], ◌∷◌, length, get_or, is_some, Some, None, Option, slice_get, Bor, sym, refl, ap, ◌∙◌, arith}
use Rattle.std.proofs.lemmas.Bool.Decides.{nat_tests}
use Rattle.std.proofs.lemmas.Option.{slice_get_past, slice_get_read}
use Rattle.std.specs.Option.{IfSome, option_copied}
use Rattle.scale.specs.Grades.{reading_at}
use Rattle.scale.specs.declared.reading.Reading.{Reading}
use Rattle.scale.proofs.scales.reading_at.Goals as goal

none_below_one : (rs : List Reading) (l : ℕ) → l < 1 → None ≡ reading_at rs l
none_below_one [] l h = refl
none_below_one (r ∷ rs) zero h = refl
none_below_one (r ∷ rs) (suc l) h = absurd (omega arith)

from_one : (rs : List Reading) (k : ℕ) → slice_get rs k ≡ reading_at rs (suc k)
from_one [] k = refl
from_one (r ∷ rs) zero = refl
from_one (r ∷ rs) (suc k) = from_one rs k

looked_up : (rs : List Reading) (k : ℕ) (o : Option (Bor Reading)) → is_some o ≡ ltb k (length rs) → IfSome o (λ x. x.now ≡ get_or rs k x.now) → option_copied o ≡ slice_get rs k
looked_up rs k None e h = let past : length rs ≤ k = grind (arith, nat_tests) in sym (slice_get_past rs k past)
looked_up rs k (Some x) e h = let lt : k < length rs = grind (arith, nat_tests) in sym (slice_get_read rs (length rs) k x.now refl lt h)

pub returns-in_err-index : goal.returns-in_err-index
returns-in_err-index c = c.from_residual.ensures ∙ none_below_one c.args.readings.now c.args.level (grind (arith, c.in_err-index.ensures))

pub returns : goal.returns
returns c =
    let found : c.copied.result ≡ slice_get c.args.readings.now c.in_ok-index.index = c.copied.ensures ∙ looked_up _ _ c.get.result c.get.ensures.lookup.0 c.get.ensures.lookup.1 in
    let next : suc c.in_ok-index.index ≡ c.args.level = grind (arith, c.in_ok-index.ensures) in
    found ∙ from_one c.args.readings.now c.in_ok-index.index ∙ ap (reading_at c.args.readings.now) next
