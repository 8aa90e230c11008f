-- Rounds of joining, recorded state by state.
use Rattle.std.proofs.Common.{◌≡◌, ℕ, suc, ◌<◌, ◌≤◌, Bool, true, false, cond, ◌&&◌, eqb, ltb, ◌⊎◌, List, get_or, replicate, sym, refl, ap, ◌∙◌, inl, inr, ⊎_elim, arith}
use mathlib.Core.Path.{fun_ext}
use native.Mathlib.Decide.{le_ind}
use lib.ListN.{get_or-replicate}
use Rattle.std.proofs.lemmas.Bool.{cases_Bool, cases_lt, both_ways, lt-ltb, le-ltb, eq-eqb, eqb-true}
use Rattle.logic.proofs.Rounds.{up_to}
use Rattle.logic.proofs.Sets.{Monotone, same_test}
use Rattle.logic.specs.FixedPoints.{rounds}
use Rattle.logic.specs.Sets.{Set, empty, Within}
use Rattle.engine.specs.Marks.{round_of, before, Rounds}
use Rattle.engine.specs.Rounded.{never, Joins, joined, Round}

-- a monotone operator depends on the states below n alone
pub alike : (n : ℕ) (f : Set → Set) → Monotone n f → (T U : Set) → ((s : ℕ) → s < n → T s ≡ U s) → (s : ℕ) → s < n → f T s ≡ f U s
alike n f mono T U h s l =
    same_test (f T s) (f U s) (mono T U (λ t k e. sym (h t k) ∙ e) s l) (mono U T (λ t k e. h t k ∙ e) s l)

-- each state joined before round k, or has not joined
abbrev pub Past : ℕ → Rounds → ℕ → Type 0
Past n x k = (s : ℕ) → s < n → (round_of x s < k) ⊎ (round_of x s ≡ never)

-- what an array filled with one value has at each state
pub everywhere : {X : Type 0} (xs : List X) (v d : X) (n s : ℕ) → n ≤ 4096 → xs ≡ replicate 4096 v → s < n → get_or xs s d ≡ v
everywhere xs v d n s few e l = ap (λ ys. get_or ys s d) e ∙ get_or-replicate 4096 s v d (omega arith)

-- before the first round no state has joined
pub none-joined : (n : ℕ) (f : Set → Set) (x : Rounds) → n ≤ 4096 → x.at ≡ replicate 4096 never → Joins n f x 0 × Past n x 0
none-joined n f x few e =
    let at : (s : ℕ) → s < n → round_of x s ≡ never = λ s l. everywhere x.at never 0 n s few e l in
    ((λ s l j h. let z : j ≡ 0 = omega arith in rw z (le-ltb (round_of x s) 0 (omega arith))), (λ s l. inr (at s l)))

joined_cases : (b : Bool) (k r : ℕ) → ((r ≡ never) × (b ≡ true) × (joined b k r ≡ k)) ⊎ ((r ≡ never → b ≡ false) × (joined b k r ≡ r))
joined_cases true k r =
    ⊎_elim (λ e. inl (eqb-true r never e, refl, simp e)) (λ e. inr (λ i. absurd (both_ways (eqb r never) e (eq-eqb r never i)), simp e))
    (cases_Bool (eqb r never))
joined_cases false k r = inr (λ e. refl, elim (eqb r never) as (λ v. cond (v && false) k r ≡ r) [ true ↦ refl | false ↦ refl ])

-- what joins in round k had not joined before
joined-before : (b : Bool) (k r j : ℕ) → j ≤ k → k ≤ never → ltb (joined b k r) j ≡ ltb r j
joined-before b k r j h l =
    ⊎_elim (λ (a, _, e). rw e (le-ltb k j h ∙ sym (le-ltb r j (omega arith)))) (λ (_, e). ap (λ x. ltb x j) e) (joined_cases b k r)

-- while round k is done below s, and not begun from there on, the states that joined before it stay the same
pub before_kept : (f : Set → Set) (s k : ℕ) (x y : Rounds) (grew : Bool) → Round s f k x y grew → ((t : ℕ) → s ≤ t → round_of y t ≡ round_of x t) → k ≤ never → before y k ≡ before x k
before_kept f s k x y grew r h le =
    fun_ext (λ t. ⊎_elim (λ l. ap (λ v. ltb v k) (r.each t l) ∙ joined-before (f (before x k) t) k (round_of x t) k (omega arith) le) (λ l. ap (λ v. ltb v k) (h t l)) (cases_lt t s))

module _ (n : ℕ) (f : Set → Set) (mono : Monotone n f) (few : n ≤ 4096) (x y : Rounds) (k : ℕ) (le : k ≤ n) (past : Past n x k) (js : Joins n f x k) where
  now_f : (s : ℕ) → s < n → f (before x k) s ≡ rounds f (suc k) empty s
  now_f = alike n f mono (before x k) (rounds f k empty) (λ s l. js s l k (omega arith))

  pub round_past : (grew : Bool) → Round n f k x y grew → Past n y (suc k)
  round_past grew r s l =
      ⊎_elim (λ (_, _, e). inl (omega (arith, r.each s l)))
      (λ (_, e). ⊎_elim (λ h. inl (omega (arith, r.each s l))) (λ h. inr (r.each s l ∙ e ∙ h)) (past s l))
      (joined_cases (f (before x k) s) k (round_of x s))

  new : (grew : Bool) → Round n f k x y grew → (s : ℕ) → s < n → before y (suc k) s ≡ rounds f (suc k) empty s
  new grew r s l = ap (λ v. ltb v (suc k)) (r.each s l) ∙ go (joined_cases (f (before x k) s) k (round_of x s)) (past s l)
    where
      b : Bool
      b = f (before x k) s

      q : ℕ
      q = round_of x s

      go : ((q ≡ never) × (b ≡ true) × (joined b k q ≡ k)) ⊎ ((q ≡ never → b ≡ false) × (joined b k q ≡ q)) → (q < k) ⊎ (q ≡ never) → ltb (joined b k q) (suc k) ≡ rounds f (suc k) empty s
      go (inl (_, t, e)) p = rw e (lt-ltb k (suc k) (omega arith) ∙ sym t ∙ now_f s l)
      go (inr (_, e)) (inl h) =
          rw e (lt-ltb q (suc k) (omega arith) ∙ sym (up_to n f mono k (suc k) (omega arith) s l (sym (js s l k (omega arith)) ∙ lt-ltb q k h)))
      go (inr (z, e)) (inr h) = rw e (le-ltb q (suc k) (omega arith) ∙ sym (z h) ∙ now_f s l)

  pub round_joins : (grew : Bool) → Round n f k x y grew → Joins n f y (suc k)
  round_joins grew r s l j h =
      ⊎_elim
      (λ i. ap (λ v. ltb v j) (r.each s l) ∙ joined-before (f (before x k) s) k (round_of x s) j (omega arith) (omega arith) ∙ js s l j (omega arith))
      (λ i. let e : j ≡ suc k = omega arith in rw e (new grew r s l)) (cases_lt j (suc k))

  -- a round in which no state joins is the last
  shut : Round n f k x y false → Within n (rounds f (suc k) empty) (rounds f k empty)
  shut r s l e =
      ⊎_elim (λ h. sym (js s l k (omega arith)) ∙ lt-ltb (round_of x s) k h)
      (λ h. absurd (⊎_elim (λ (_, _, z). let w = r.still refl s l in omega (arith, r.each s l))
      (λ (z, _). both_ways (f (before x k) s) (z h) (now_f s l ∙ e)) (joined_cases (f (before x k) s) k (round_of x s)))) (past s l)

  stays : Round n f k x y false → (j : ℕ) → k ≤ j → Within n (rounds f j empty) (rounds f k empty)
  stays r =
      le_ind (λ j. Within n (rounds f j empty) (rounds f k empty)) (λ s l e. e)
      (λ j h ih s l e. shut r s l (mono (rounds f j empty) (rounds f k empty) ih s l e))

  pub last_joins : Round n f k x y false → Joins n f y (suc n)
  last_joins r s l j h = ⊎_elim (λ i. round_joins false r s l j (omega arith)) (λ i. far j h i (past s l)) (cases_lt j (suc k))
    where
      far : (j : ℕ) → j ≤ suc n → suc k ≤ j → (round_of x s < k) ⊎ (round_of x s ≡ never) → before y j s ≡ rounds f j empty s
      far j h i p =
          ap (λ v. ltb v j) (r.still refl s l)
          ∙ ⊎_elim
          (λ a. lt-ltb (round_of x s) j (omega arith) ∙ sym (up_to n f mono k j (omega arith) s l (sym (js s l k (omega arith)) ∙ lt-ltb (round_of x s) k a)))
          (λ a. le-ltb (round_of x s) j (omega arith)
          ∙ same_test false (rounds f j empty s) (λ z. absurd (both_ways false refl z))
          (λ z. absurd (both_ways (rounds f k empty s) (sym (js s l k (omega arith)) ∙ le-ltb (round_of x s) k (omega arith)) (stays r j (omega arith) s l z)))) p
