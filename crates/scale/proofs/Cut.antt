-- Four zeros and four ones, cut to the digits of a degree.
use Rattle.std.proofs.Common.{◌≡◌, ℕ, zero, suc, ◌+◌, ◌-◌, ◌≤◌, ◌++◌, take, drop, replicate, codes, refl, arith}

up_to_four : (P : ℕ → Type 0) → P 0 → P 1 → P 2 → P 3 → P 4 → (n : ℕ) → n ≤ 4 → P n
up_to_four P a b c d e zero h = a
up_to_four P a b c d e (suc zero) h = b
up_to_four P a b c d e (suc (suc zero)) h = c
up_to_four P a b c d e (suc (suc (suc zero))) h = d
up_to_four P a b c d e (suc (suc (suc (suc zero)))) h = e
up_to_four P a b c d e (suc (suc (suc (suc (suc n))))) h = absurd (omega arith)

abbrev pub Cut : ℕ → ℕ → Type 0
Cut zeros ones = take (4 + ones - (4 - zeros)) (drop (4 - zeros) (codes "00001111")) ≡ replicate zeros 48 ++ replicate ones 49

pub cut : (zeros ones : ℕ) → zeros ≤ 4 → ones ≤ 4 → Cut zeros ones
cut zeros ones hz ho =
    up_to_four (λ n. Cut n ones)
    (up_to_four (Cut 0) refl refl refl refl refl ones ho) (up_to_four (Cut 1) refl refl refl refl refl ones ho)
    (up_to_four (Cut 2) refl refl refl refl refl ones ho) (up_to_four (Cut 3) refl refl refl refl refl ones ho)
    (up_to_four (Cut 4) refl refl refl refl refl ones ho) zeros hz
