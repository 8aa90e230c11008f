-- What holds of a row over a sheet and its bytes holds of the row, the sheet and the bytes that it stands for.
use Rattle.std.proofs.Common.{◌≡◌, ◌≢◌, ℕ, ◌<◌, ◌==◌, cond, List, Some, None, Option, is_some, sym, refl, subst, ap, ◌∙◌}
use Rattle.std.specs.Option.{unwrap_or, ForSome}
use Rattle.std.proofs.lemmas.Bool.{both_ways, eq-eqb}
use Rattle.logic.specs.Formulas.{unused}
use Rattle.sheet.specs.Calls.{given, second_of}
use Rattle.sheet.specs.Kinds.{number_of, operands_of, kind_of, meant}
use Rattle.sheet.specs.declared.kinds.Kind.{Kind}
use Rattle.sheet.specs.Checks.{Earlier}
use Rattle.sheet.specs.Over.{state_of, row_of, Lends, Stands}
use Rattle.sheet.specs.States.{State, seen}
use Rattle.sheet.specs.declared.row.Row.{Row}
use Rattle.sheet.specs.declared.sheet.Sheet.{Sheet}
use Rattle.sheet.specs.declared.sheet.lent.Lent.{Lent}
use Rattle.sheet.specs.declared.sheet.lent.Known.{Known}
use Rattle.sheet.proofs.Numbers.{number_low, kind_of-number_of}

pub state_is : (x : Lent) (s : Sheet) (bs : List ℕ) (rs : List Row) → Lends x s bs → state_of x rs ≡ seen s rs bs
state_is x s bs rs h = subst (λ s. state_of x rs ≡ seen s rs bs) h.sheet (ap (λ bs. seen x.sheet.now rs bs) h.bytes)

pub same : {A : Type 0} (f : State → Row → A) (x : Known) (s : Sheet) (bs : List ℕ) (r : Row) (rs : List Row) → Stands x s bs r → f (state_of x.lent rs) (row_of x) ≡ f (seen s rs bs) r
same f x s bs r rs h = ap (f (state_of x.lent rs)) h.row ∙ ap (λ t. f t r) (state_is x.lent s bs rs h.lends)

pub moved : (P : State → Row → Type 0) (x : Known) (s : Sheet) (bs : List ℕ) (r : Row) (rs : List Row) → Stands x s bs r → P (state_of x.lent rs) (row_of x) → P (seen s rs bs) r
moved P x s bs r rs h p = subst (λ t. P t r) (state_is x.lent s bs rs h.lends) (subst (λ r. P (state_of x.lent rs) r) h.row p)

pub onward : (x : Known) (l : Lent) (s : Sheet) (bs : List ℕ) (r : Row) → Stands x l.sheet.now l.bytes.now r → Lends l s bs → Stands x s bs r
onward x l s bs r h k = record { lends = record { sheet = h.lends.sheet ∙ k.sheet; bytes = h.lends.bytes ∙ k.bytes }; row = h.row }

-- where the kind has two operands, the second is there
second_below : (b : Option ℕ) (n count : ℕ) → is_some b ≡ (n == 2) → ForSome b (λ b. b < count) → n ≡ 2 → unwrap_or b 0 < count
second_below (Some b) n count h low two = low b refl
second_below None n count h low two = absurd (both_ways (n == 2) (sym h) (eq-eqb n 2 two))

-- a row's second operand is the one that it holds, and none where it holds none
pub second_there : (x : Known) (rs : List Row) (b : ℕ) → x.b ≡ Some b → second_of (state_of x.lent rs) (row_of x) ≡ given (state_of x.lent rs) b
second_there x rs b e = ap (λ t. cond t (given (state_of x.lent rs) (unwrap_or x.b 0)) unused) (sym x.binary ∙ ap is_some e) ∙ ap (λ b. given (state_of x.lent rs) (unwrap_or b 0)) e

pub second_missing : (x : Known) (rs : List Row) → x.b ≡ None → second_of (state_of x.lent rs) (row_of x) ≡ unused
second_missing x rs e = ap (λ t. cond t (given (state_of x.lent rs) (unwrap_or x.b 0)) unused) (sym x.binary ∙ ap is_some e)

pub earlier : (x : Known) (s : Sheet) (bs : List ℕ) (r : Row) → Stands x s bs r → Earlier s r
earlier x s bs r h =
    let low = number_low x.kind in
    let own : Earlier x.lent.sheet.now (row_of x) = record { some_kind = low.0; last_kind = low.1; first = x.first; second = second_below x.b _ _ x.binary x.second } in
    subst (λ s. Earlier s r) h.lends.sheet (subst (λ r. Earlier x.lent.sheet.now r) h.row own)

-- a row's operands are rows of the sheet
pub operands_there : (x : Known) (s : Sheet) (bs : List ℕ) (r : Row) → Stands x s bs r →
    ((number_of x.kind ≢ 1) → x.a < s.rows) × (is_some x.b ≡ (operands_of (number_of x.kind) == 2)) × ForSome x.b (λ b. b < s.rows)
operands_there x s bs r h =
    subst (λ (s : Sheet). ((number_of x.kind ≢ 1) → x.a < s.rows) × (is_some x.b ≡ (operands_of (number_of x.kind) == 2)) × ForSome x.b (λ b. b < s.rows)) h.lends.sheet (x.first, x.binary, x.second)

-- the kind of the logic that a row is, once its kind is known
pub kind_is : (x : Known) (k : Kind) → x.kind ≡ k → kind_of (number_of x.kind) x.a ≡ meant k x.a
kind_is x k e = kind_of-number_of x.kind x.a ∙ ap (λ k. meant k x.a) e
