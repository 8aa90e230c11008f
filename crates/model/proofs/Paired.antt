-- The steps of a pair, from those of its parts.
use Rattle.std.proofs.Common.{◌≡◌, ℕ, ◌+◌, ◌-◌, ◌*◌, ◌/◌, ◌%◌, ◌<◌, ◌≤◌, min, Bool, true, ◌&&◌, ◌||◌, eqb, ltb, Some, None, Option, refl, ap, ⊎_elim, mul-le-mul_right, add-mul, lt_of_mul-lt-mul_right, one-mul, mul-zero, le_of_mul-le-mul_right, arith}
use lib.Arith.{digits_lt}
use Rattle.std.proofs.lemmas.Nat.{div-add-mod', div-mul-add, mod-mul-add, div_below, mod_below}
use Rattle.std.proofs.lemmas.Bool.{and_parts, and_from, or_cases, or_left, or_right, eqb-true, eq-eqb, lt-ltb, cases_lt}
use Rattle.std.proofs.lemmas.Bool.Decides.{nat_tests}
use Rattle.std.specs.Option.{option_map}
use Rattle.std.proofs.lemmas.Option.{none-some, same_Some}
use Rattle.model.specs.Lesser.{lesser_of}
use Rattle.model.specs.Meaning.{Meaning, Lawful, Least}
use Rattle.model.specs.Pairs.{paired, first_steps, second_steps}
use Rattle.model.proofs.Least.{least_or}
use Rattle.model.proofs.Limited.{limited-least}

-- from is the least k with t ≤ k × width + j: what t lies above j, divided by the width and rounded up
module _ (t j width above from : ℕ) (lt : j < width) (up : above ≡ t - j) (rounded : from ≡ above / width + min 1 (above % width)) where
  reaches : (k : ℕ) → from ≤ k → t ≤ k * width + j
  reaches k h =
      let d = div-add-mod' above width in let m = mod_below above width (omega arith) in
      ⊎_elim
      (λ (z : 0 < above % width).
      let q = mul-le-mul_right {m = above / width + 1} {n = k} width (omega arith) in
      let e = add-mul (above / width) 1 width in let o = one-mul width in omega arith)
      (λ (z : above % width ≤ 0). let q = mul-le-mul_right {m = above / width} {n = k} width (omega arith) in omega arith)
      (cases_lt 0 (above % width))

  reached : (k : ℕ) → t ≤ k * width + j → from ≤ k
  reached k h =
      let d = div-add-mod' above width in
      ⊎_elim
      (λ (z : 0 < above % width). let less : above / width < k = lt_of_mul-lt-mul_right width (omega arith) in omega arith)
      (λ (z : above % width ≤ 0). let most : above / width ≤ k = le_of_mul-le-mul_right {k = width} (omega arith) (omega arith) in omega arith)
      (cases_lt 0 (above % width))

  -- the least state with remainder j whose quotient passes
  pub least_quotient : (passes : ℕ → Bool) (r : Option ℕ) → Least passes from r → Least (λ u. eqb (u % width) j && passes (u / width)) t (option_map (λ k. k * width + j) r)
  least_quotient passes None l =
      λ u h e. let x = and_parts (eqb (u % width) j) (passes (u / width)) e in
      let m = eqb-true _ _ x.0 in let d = div-add-mod' u width in l (u / width) (reached (u / width) (omega arith)) x.1
  least_quotient passes (Some k) l = (
    reaches k l.0,
    simp (mod-mul-add k width j lt, div-mul-add k width j lt, l.1, eq-eqb j j refl),
    λ v h less e. let x = and_parts (eqb (v % width) j) (passes (v / width)) e in
        let m = eqb-true _ _ x.0 in let d = div-add-mod' v width in
        l.2 (v / width) (reached (v / width) (omega arith)) (lt_of_mul-lt-mul_right width (omega arith)) x.1,
  )

-- a state found by its quotient is one of the pair
pub quotient_inside : (m : Meaning) → Lawful m → (i t width j : ℕ) → j < width → m.states * width ≤ 4096 → (r : Option ℕ) → Least (m.step i) t r → (k : ℕ) → r ≡ Some k → k * width + j ≤ 4096
quotient_inside m law i t width j lt few None l k e = absurd (none-some k e)
quotient_inside m law i t width j lt few (Some u) l k e =
    let here : k < m.states = omega (arith, same_Some u k e, law.steps_to i u l.1) in
    let h = digits_lt {q = k} {m = m.states} {r = j} {c = width} here lt in omega arith

-- the least state with quotient i whose remainder passes
module _ (t i width from : ℕ) (up : from ≡ t - i * width) where
  pub least_remainder : (passes : ℕ → Bool) → ((k : ℕ) → passes k ≡ true → k < width) → (r : Option ℕ) → Least passes from r → Least (λ u. eqb (u / width) i && passes (u % width)) t (option_map (λ k. i * width + k) r)
  least_remainder passes below None l =
      λ u h e. let x = and_parts (eqb (u / width) i) (passes (u % width)) e in
      let same : u / width * width ≡ i * width = ap (λ n. n * width) (eqb-true _ _ x.0) in let d = div-add-mod' u width in
      l (u % width) (omega arith) x.1
  least_remainder passes below (Some k) l =
      let lt = below k l.1 in (
        omega (arith, l.0),
        simp (mod-mul-add i width k lt, div-mul-add i width k lt, l.1, eq-eqb i i refl),
        λ v h less e. let x = and_parts (eqb (v / width) i) (passes (v % width)) e in
            let same : v / width * width ≡ i * width = ap (λ n. n * width) (eqb-true _ _ x.0) in let d = div-add-mod' v width in
            l.2 (v % width) (omega arith) (omega arith) x.1,
      )

below : (t nb na : ℕ) → 0 < nb → t / nb < na → t < na * nb
below t nb na pos lt =
    let e = div-add-mod' t nb in
    let h = digits_lt {q = t / nb} {m = na} {r = t % nb} {c = nb} lt (mod_below t nb pos) in omega arith

module _ (a b : Meaning) (la : Lawful a) (lb : Lawful b) (s : ℕ) (lt : s < (paired a b).states) where
  -- a pair with a state has as many as its parts together, and no more than a model may have
  pub whole : (s < a.states * b.states) × (a.states * b.states ≤ 4096) × ((paired a b).states ≡ a.states * b.states)
  whole = grind (arith, nat_tests)

  pub wide : 0 < b.states
  wide = ⊎_elim (λ h. h) (λ (h : b.states ≤ 0). let z : b.states ≡ 0 = omega arith in let q : a.states * b.states ≡ 0 = simp (z, mul-zero) in absurd (omega (arith, whole.0))) (cases_lt 0 b.states)

  first_inside : (u : ℕ) → first_steps a b s u ≡ true → u < (paired a b).states
  first_inside u e =
      let x = and_parts (eqb (u % b.states) (s % b.states)) (a.step (s / b.states) (u / b.states)) e in
      let h = below u b.states a.states wide (la.steps_to _ _ x.1) in let w = whole in omega arith

  second_inside : (u : ℕ) → second_steps a b s u ≡ true → u < (paired a b).states
  second_inside u e =
      let x = and_parts (eqb (u / b.states) (s / b.states)) (b.step (s % b.states) (u % b.states)) e in
      let same = eqb-true _ _ x.0 in
      let d = div_below s b.states a.states wide whole.0 in
      let h = below u b.states a.states wide (omega arith) in let w = whole in omega arith

  pub paired-least : (t : ℕ) (q r : Option ℕ) → Least (first_steps a b s) t q → Least (second_steps a b s) t r → Least ((paired a b).step s) t (lesser_of q r)
  paired-least t q r l k =
      limited-least (paired a b) (λ u. first_steps a b s u || second_steps a b s u) s t (paired a b).states (lesser_of q r) (λ u. refl) refl lt
      (least_or (first_steps a b s) (second_steps a b s) (λ u. ltb u (paired a b).states && (first_steps a b s u || second_steps a b s u)) t q r
      (λ u h e. or_cases (first_steps a b s u) (second_steps a b s u) (and_parts (ltb u (paired a b).states) _ e).1)
      (λ u h e. and_from _ _ (lt-ltb _ _ (first_inside u e)) (or_left _ _ e))
      (λ u h e. and_from _ _ (lt-ltb _ _ (second_inside u e)) (or_right (first_steps a b s u) _ e)) l k)
