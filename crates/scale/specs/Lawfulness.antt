-- Proofs, and no definitions to read: every scale given by an orderly list is lawful. (A ghost member cites specs/ alone.)
use Rattle.std.specs.Prelude.{◌≡◌, ℕ, zero, suc, ◌≤◌, Bool, true, false, ◌&&◌, List, [], ◌∷◌, length, is_some, Some, None, Option, nat_le, refl}
use Rattle.std.proofs.Common.{ap, arith}
use Rattle.std.proofs.lemmas.Bool.{and_parts, leb-true, both_ways}
use Rattle.scale.specs.Readings.{strength}
use Rattle.scale.specs.Grades.{Lawful, reading_at, graded, boolean, five_valued}
use Rattle.scale.specs.declared.reading.Reading.{Reading}
use Rattle.scale.specs.declared.reading.Reading.TheVariants.{Sometime, InfinitelyOften, EventuallyAlways, Always}

-- no reading of the list is weaker than k
abbrev pub at_least : ℕ → List Reading → Bool
at_least k [] = true
at_least k (r ∷ rs) = nat_le k (strength r) && at_least k rs

-- each is no weaker than those before it
abbrev pub ascends : List Reading → Bool
ascends [] = true
ascends (r ∷ rs) = at_least (strength r) rs && ascends rs

abbrev pub orderly : List Reading → Bool
orderly rs = nat_le 1 (length rs) && nat_le (length rs) 4 && ascends rs

nothing : {X : Type 0} (r : Reading) → None ≡ Some r → X
nothing r e = absurd (both_ways false refl (ap is_some e))

strength_of : Option Reading → ℕ
strength_of None = 0
strength_of (Some r) = strength r

same : (q r : Reading) → Some q ≡ Some r → strength q ≡ strength r
unfolding strength_of
same q r e = ap strength_of e

present : (rs : List Reading) (l : ℕ) → 1 ≤ l → l ≤ length rs → is_some (reading_at rs l) ≡ true
present [] l h b = absurd (omega arith)
present (r ∷ rs) zero h b = absurd (omega arith)
present (r ∷ rs) (suc zero) h b = refl
present (r ∷ rs) (suc (suc l)) h b = present rs (suc l) (omega arith) (omega arith)

absent : (rs : List Reading) (l : ℕ) → is_some (reading_at rs l) ≡ true → (1 ≤ l) × (l ≤ length rs)
absent [] l e = absurd (both_ways false refl e)
absent (r ∷ rs) zero e = absurd (both_ways false refl e)
absent (r ∷ rs) (suc zero) e = (omega arith, omega arith)
absent (r ∷ rs) (suc (suc l)) e = let b = absent rs (suc l) e in (omega arith, omega arith)

no_weaker : (k : ℕ) (rs : List Reading) (l : ℕ) (r : Reading) → at_least k rs ≡ true → reading_at rs l ≡ Some r → k ≤ strength r
no_weaker k [] l r a e = nothing r e
no_weaker k (x ∷ xs) zero r a e = nothing r e
no_weaker k (x ∷ xs) (suc zero) r a e =
    let h = leb-true k (strength x) (and_parts (nat_le k (strength x)) (at_least k xs) a).0 in let s = same x r e in omega arith
no_weaker k (x ∷ xs) (suc (suc l)) r a e = no_weaker k xs (suc l) r (and_parts (nat_le k (strength x)) (at_least k xs) a).1 e

rising : (rs : List Reading) (k l : ℕ) (q r : Reading) → ascends rs ≡ true → k ≤ l → reading_at rs k ≡ Some q → reading_at rs l ≡ Some r → strength q ≤ strength r
rising [] k l q r a h d e = nothing q d
rising (x ∷ xs) zero l q r a h d e = nothing q d
rising (x ∷ xs) (suc k) zero q r a h d e = nothing r e
rising (x ∷ xs) (suc zero) (suc zero) q r a h d e = let s = same x q d in let t = same x r e in omega arith
rising (x ∷ xs) (suc zero) (suc (suc l)) q r a h d e =
    let s = same x q d in let w = no_weaker (strength x) xs (suc l) r (and_parts (at_least (strength x) xs) (ascends xs) a).0 e in omega arith
rising (x ∷ xs) (suc (suc k)) (suc zero) q r a h d e = absurd (omega arith)
rising (x ∷ xs) (suc (suc k)) (suc (suc l)) q r a h d e =
    rising xs (suc k) (suc l) q r (and_parts (at_least (strength x) xs) (ascends xs) a).1 (omega arith) d e

pub graded_lawful : (rs : List Reading) → orderly rs ≡ true → Lawful (graded rs)
graded_lawful rs o =
    let p = and_parts (nat_le 1 (length rs) && nat_le (length rs) 4) (ascends rs) o in
    let c = and_parts (nat_le 1 (length rs)) (nat_le (length rs) 4) p.0 in
    record {
      some_level = leb-true 1 (length rs) c.0;
      few_levels = leb-true (length rs) 4 c.1;
      present = present rs;
      absent = absent rs;
      rising = λ k l q r h d e. rising rs k l q r p.1 h d e;
    }

pub boolean_lawful : Lawful boolean
boolean_lawful = graded_lawful (Always ∷ []) refl

pub five_lawful : Lawful five_valued
five_lawful = graded_lawful (Sometime ∷ InfinitelyOften ∷ EventuallyAlways ∷ Always ∷ []) refl
