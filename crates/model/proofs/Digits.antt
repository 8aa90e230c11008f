-- The base-4 digits of a number: what they are of, and what a change of one makes of it.
use Rattle.std.proofs.Common.{◌≡◌, ℕ, zero, suc, ◌+◌, ◌*◌, ◌/◌, ◌%◌, ◌^◌, ◌<◌, sym, refl, ap, ◌∙◌, mul_assoc, mul_comm, pow-suc, arith}
use native.Mathlib.Nat.{div-div-eq-div-mul}
use Rattle.model.specs.Pools.{digit}

-- the higher digits are those of the quotient
higher : (j s : ℕ) → digit (suc j) s ≡ digit j (s / 4)
higher j s = ap (λ n. s / n % 4) (pow-suc 4 j ∙ mul_comm (4 ^ j) 4) ∙ ap (λ n. n % 4) (sym (div-div-eq-div-mul s 4 (4 ^ j)))

lowest : (s : ℕ) → digit 0 s ≡ s % 4
lowest s = omega arith

quotient_below : (k s : ℕ) → s < 4 ^ suc k → s / 4 < 4 ^ k
quotient_below k s h = let p = pow-suc 4 k in omega arith

scaled : (d i : ℕ) → d * 4 ^ suc i ≡ d * 4 ^ i * 4
scaled d i = ap (λ n. d * n) (pow-suc 4 i) ∙ sym (mul_assoc d (4 ^ i) 4)

-- numbers of k digits are equal where their digits are
pub equal_by_digits : (k s u : ℕ) → s < 4 ^ k → u < 4 ^ k → ((j : ℕ) → j < k → digit j s ≡ digit j u) → s ≡ u
equal_by_digits zero s u hs hu same = omega arith
equal_by_digits (suc k) s u hs hu same =
    let q = equal_by_digits k (s / 4) (u / 4) (quotient_below k s hs) (quotient_below k u hu)
    (λ j h. sym (higher j s) ∙ same (suc j) (omega arith) ∙ higher j u) in
    let r : s % 4 ≡ u % 4 = sym (lowest s) ∙ same 0 (omega arith) ∙ lowest u in omega arith

-- numbers of k digits that differ in digit i alone
pub differ_by_one : (k i s u : ℕ) → i < k → s < 4 ^ k → u < 4 ^ k → ((j : ℕ) → j < k → (j ≡ i → ⊥) → digit j s ≡ digit j u) → u + digit i s * 4 ^ i ≡ s + digit i u * 4 ^ i
differ_by_one zero i s u h hs hu same = absurd (omega arith)
differ_by_one (suc k) zero s u h hs hu same =
    let q = equal_by_digits k (s / 4) (u / 4) (quotient_below k s hs) (quotient_below k u hu)
    (λ j h. sym (higher j s) ∙ same (suc j) (omega arith) (λ e. omega arith) ∙ higher j u) in omega arith
differ_by_one (suc k) (suc i) s u h hs hu same =
    let q = differ_by_one k i (s / 4) (u / 4) (omega arith) (quotient_below k s hs) (quotient_below k u hu)
    (λ j h ne. sym (higher j s) ∙ same (suc j) (omega arith) (λ e. ne (omega arith)) ∙ higher j u) in
    let r : s % 4 ≡ u % 4 = sym (lowest s) ∙ same 0 (omega arith) (λ e. omega arith) ∙ lowest u in
    rw (higher i s, higher i u, scaled (digit i (s / 4)) i, scaled (digit i (u / 4)) i) (omega arith)

-- a change of digit i + 1 is one of digit i of the quotient
change_higher : (i s u e : ℕ) → u + digit (suc i) s * 4 ^ suc i ≡ s + e * 4 ^ suc i → (s % 4 ≡ u % 4) × (u / 4 + digit i (s / 4) * 4 ^ i ≡ s / 4 + e * 4 ^ i)
change_higher i s u e c =
    let c' : u + digit i (s / 4) * 4 ^ i * 4 ≡ s + e * 4 ^ i * 4 = rw (← scaled (digit i (s / 4)) i, ← scaled e i, ← higher i s) c in
    (omega arith, omega arith)

-- e in the place of digit i: that digit, the others, and how many there are
pub changed_digit : (i s u e : ℕ) → e < 4 → u + digit i s * 4 ^ i ≡ s + e * 4 ^ i → digit i u ≡ e
changed_digit zero s u e h c = omega arith
changed_digit (suc i) s u e h c = higher i u ∙ changed_digit i (s / 4) (u / 4) e h (change_higher i s u e c).1

pub other_digits : (i s u e : ℕ) → e < 4 → u + digit i s * 4 ^ i ≡ s + e * 4 ^ i → (j : ℕ) → (j ≡ i → ⊥) → digit j s ≡ digit j u
other_digits zero s u e h c zero ne = absurd (ne refl)
other_digits zero s u e h c (suc j) ne = let q : s / 4 ≡ u / 4 = omega arith in higher j s ∙ ap (digit j) q ∙ sym (higher j u)
other_digits (suc i) s u e h c zero ne = lowest s ∙ (change_higher i s u e c).0 ∙ sym (lowest u)
other_digits (suc i) s u e h c (suc j) ne =
    higher j s ∙ other_digits i (s / 4) (u / 4) e h (change_higher i s u e c).1 j (λ q. ne (ap suc q)) ∙ sym (higher j u)

pub changed_below : (k i s u e : ℕ) → i < k → s < 4 ^ k → e < 4 → u + digit i s * 4 ^ i ≡ s + e * 4 ^ i → u < 4 ^ k
changed_below zero i s u e h hs he c = absurd (omega arith)
changed_below (suc k) zero s u e h hs he c = let p = pow-suc 4 k in omega arith
changed_below (suc k) (suc i) s u e h hs he c =
    let q = changed_below k i (s / 4) (u / 4) e (omega arith) (quotient_below k s hs) he (change_higher i s u e c).1 in
    let p = pow-suc 4 k in omega arith
