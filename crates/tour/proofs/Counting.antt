-- The count of the numbers in a range that pass a test.
use Rattle.std.proofs.Common.{◌≡◌, ℕ, zero, suc, ◌+◌, Bool, ◌∷◌, add-zero, add-one, zero-add, ap, arith, cond}
use Rattle.std.proofs.lemmas.List.Sums.{sum_by-cons}
use Rattle.std.specs.List.{count_by, range_with_len}
use Rattle.tour.specs.Tally.{tally}

join : (t c r s x y : ℕ) → s ≡ c + r → t + c + r ≡ x → x ≡ y → t + s ≡ y
join t c r s x y e f h = omega arith

counted_from : (passes : ℕ → Bool) (a n : ℕ) → tally a passes + count_by passes (range_with_len a n) ≡ tally (a + n) passes
counted_from passes a zero = simp add-zero
counted_from passes a (suc n) =
    rw add-one (join (tally a passes) (cond (passes a) 1 0) (count_by passes (range_with_len (suc a) n)) (count_by passes (a ∷ range_with_len (suc a) n)) (tally (suc a + n) passes) (tally (a + suc n) passes)
    (sum_by-cons (λ x. cond (passes x) 1 0) a (range_with_len (suc a) n)) (counted_from passes (suc a) n) (ap (λ k. tally k passes) (let e : suc a + n ≡ a + suc n = omega arith in e)))

pub counted : (passes : ℕ → Bool) (n : ℕ) → count_by passes (range_with_len 0 n) ≡ tally n passes
counted passes n = simp zero-add at (counted_from passes 0 n)
