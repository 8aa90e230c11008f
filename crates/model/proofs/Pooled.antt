-- The moves of the threads of a pool, by digits and by numbers.
use Rattle.std.proofs.Common.{◌≡◌, ℕ, ◌+◌, ◌-◌, ◌*◌, ◌^◌, ◌<◌, ◌≤◌, true, cond, ◌&&◌, ◌||◌, eqb, ltb, sym, ap, ◌∙◌, subst, ⊎_elim, arith}
use native.Mathlib.Nat.{pow-le-pow_right}
use Rattle.std.proofs.lemmas.Nat.{mul-le}
use Rattle.std.proofs.lemmas.Bool.{and_parts, and_from, or_cases, or_left, or_right, eqb-true, eq-eqb, ltb-true, lt-ltb, cases_eq}
use Rattle.std.proofs.lemmas.Bool.Decides.{nat_tests}
use Rattle.model.specs.declared.pool.Thread.{Thread}
use Rattle.model.specs.declared.pool.Thread.TheVariants.{A, B}
use Rattle.model.specs.Pools.{digit, share, holder, moves, others, guarded, leads, pooled}
use Rattle.model.proofs.Below.{every_decides}
use Rattle.model.proofs.Digits.{differ_by_one, changed_digit, other_digits, changed_below}

-- the powers of 4 that a pool meets
pub few : (k : ℕ) → k ≤ 6 → 4 ^ k ≤ 4096
few k h = pow-le-pow_right {n = 4} (omega arith) h

pub weight_few : (i : ℕ) → i < 6 → (0 < 4 ^ i) × (4 ^ i ≤ 1024)
weight_few i h = (pow-le-pow_right {n = 4} (omega arith) {i = 0} (omega arith), pow-le-pow_right {n = 4} (omega arith) {j = 5} (omega arith))

-- a pool with a state has 1 to 6 buffers, and 4 states for each
pub pool_whole : (k g s : ℕ) → s < (pooled k g).states → (k ≤ 6) × (4 ^ k ≡ (pooled k g).states)
pool_whole k g s h = let six : k ≤ 6 = grind (arith, nat_tests) in let f = few k six in (six, grind (arith, nat_tests))

-- a product of a digit and a weight
pub part_few : (e i : ℕ) → e < 4 → i < 6 → e * 4 ^ i ≤ 3072
part_few e i he hi = mul-le e (4 ^ i) 3 1024 (omega arith) (weight_few i hi).1

-- the digit after a thread's move is the one that the code computes
moves_one : (x : Thread) (d e : ℕ) → d < 4 → moves x d e ≡ true → e ≡ cond (holder x d) (d - share x) (d + share x)
moves_one A d e h m = grind (arith, nat_tests)
moves_one B d e h m = grind (arith, nat_tests)

pub moves_to : (x : Thread) (d e : ℕ) → d < 4 → e ≡ cond (holder x d) (d - share x) (d + share x) → (moves x d e ≡ true) × (e < 4)
moves_to A d e h m = grind (arith, nat_tests)
moves_to B d e h m = grind (arith, nat_tests)

module _ (k g : ℕ) (x : Thread) (i s e : ℕ) (turned : e ≡ cond (holder x (digit i s)) (digit i s - share x) (digit i s + share x)) where
  -- what a thread's move with buffer i to state v comes to
  parts : (v : ℕ) → (ltb v (4 ^ k) && leads k g x i s v) ≡ true → (v < 4 ^ k) × (others k g i s v ≡ true) × (digit i v ≡ e) × (guarded k g i v ≡ true)
  parts v h =
      let p = and_parts (ltb v (4 ^ k)) (leads k g x i s v) h in
      let q = and_parts (others k g i s v) (moves x (digit i s) (digit i v) && guarded k g i v) p.1 in
      let r = and_parts (moves x (digit i s) (digit i v)) (guarded k g i v) q.1 in
      (ltb-true v (4 ^ k) p.0, q.0, moves_one x (digit i s) (digit i v) (omega arith) r.0 ∙ sym turned, r.1)

  module _ (u : ℕ) (lt : i < k) (hs : s < 4 ^ k) (made : u + digit i s * 4 ^ i ≡ s + e * 4 ^ i) where
    -- it can only lead to u
    pub leads_only : (v : ℕ) → (ltb v (4 ^ k) && leads k g x i s v) ≡ true → v ≡ u
    leads_only v h =
        let p = parts v h in
        let d = differ_by_one k i s v lt hs p.0 (λ j hj ne.
        ⊎_elim (λ (w : eqb j i ≡ true). absurd (ne (eqb-true j i w))) (λ w. eqb-true (digit j s) (digit j v) w)
        (or_cases (eqb j i) (eqb (digit j s) (digit j v)) ((every_decides (λ j. eqb j i || eqb (digit j s) (digit j v)) k).0 p.1 j hj))) in
        let same : digit i v * 4 ^ i ≡ e * 4 ^ i = ap (λ n. n * 4 ^ i) p.2 in omega arith

    -- and it does lead there, unless the guard forbids it
    pub leads_there : (g ≡ 1 → e ≡ 3 → ⊥) → (ltb u (4 ^ k) && leads k g x i s u) ≡ true
    leads_there free =
        let m = moves_to x (digit i s) e (omega arith) turned in
        let is = changed_digit i s u e m.1 made in
        let rest = (every_decides (λ j. eqb j i || eqb (digit j s) (digit j u)) k).1 (λ j hj.
        ⊎_elim (λ (w : j ≡ i). or_left _ _ (eq-eqb j i w)) (λ ne. or_right (eqb j i) _ (eq-eqb _ _ (other_digits i s u e m.1 made j ne))) (cases_eq j i)) in
        and_from _ _ (lt-ltb _ _ (changed_below k i s u e lt hs m.1 made))
        (and_from _ _ rest (and_from _ _ (subst (λ n. moves x (digit i s) n ≡ true) (sym is) m.0) (grind (arith, nat_tests))))
