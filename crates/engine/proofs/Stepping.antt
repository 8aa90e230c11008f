-- The least step from a number on is the first of the steps from there.
use Rattle.std.proofs.Common.{◌≡◌, ℕ, zero, suc, ◌+◌, ◌-◌, ◌<◌, ◌≤◌, Bool, true, false, not, length, get_or, List, [], ◌∷◌, filter, Some, None, sym, ap, refl, ◌∙◌, subst, ⊎_elim, arith}
use mathlib.Core.Bool.{beq}
use Rattle.std.specs.Bool.{MatchBool}
use Rattle.std.specs.Iterator.{YieldsFirst}
use Rattle.std.specs.Iterator.Runs.{Run, AllItems, AnyItem}
use Rattle.std.specs.Option.{IfSome, IsSomeAnd}
use Rattle.std.proofs.iter.Rest.{run_of_first}
use Rattle.std.proofs.lemmas.Iterator.Adapters.{option_map_id}
use Rattle.std.specs.List.{range_with_len, HoldsAt, AllWithin}
use Rattle.std.proofs.lemmas.Bool.{cases_Bool, cases_lt, both_ways}
use Rattle.model.specs.Meaning.{Meaning, Lawful, Least}
use Rattle.logic.specs.FixedPoints.{pre}
use Rattle.logic.specs.Sets.{Set}
use Rattle.engine.specs.Marks.{ours}
use Rattle.engine.specs.Seeking.{Goes}
use Rattle.engine.specs.Targets.{targets}
use Rattle.engine.proofs.Hits.{hit, miss}

same : (a b : Bool) → beq a b ≡ true → a ≡ b
same true true e = refl
same true false e = absurd (both_ways false refl e)
same false true e = absurd (both_ways false refl e)
same false false e = refl

other : (a b : Bool) → beq a b ≡ false → a ≡ not b
other true true e = absurd (both_ways true e refl)
other true false e = refl
other false true e = refl
other false false e = absurd (both_ways true e refl)

keeps : (p : ℕ → Bool) (t : ℕ) (xs : List ℕ) → p t ≡ true → filter p (t ∷ xs) ≡ t ∷ filter p xs
keeps p t xs e = rw e refl

leaves : (p : ℕ → Bool) (t : ℕ) (xs : List ℕ) → p t ≡ false → filter p (t ∷ xs) ≡ filter p xs
leaves p t xs e = rw e refl

first_kept : (p : ℕ → Bool) (k t u : ℕ) → Least p t (Some u) → u < t + k → filter p (range_with_len t k) ≡ u ∷ filter p (range_with_len (u + 1) (t + k - (u + 1)))
first_kept p zero t u h l = let z = h.0 in absurd (omega arith)
first_kept p (suc k) t u h l =
    let z = h.0 in
    ⊎_elim
    (λ (b : t < u).
    ⊎_elim (λ e. absurd (h.2 t (omega arith) b e))
    (λ e. let left : t + 1 + k ≡ t + suc k = omega arith in
    leaves p t (range_with_len (t + 1) k) e
    ∙ first_kept p k (t + 1) u (omega arith, h.1, λ v m n. h.2 v (omega arith) n) (omega arith)
    ∙ ap (λ j. u ∷ filter p (range_with_len (u + 1) (j - (u + 1)))) left)
    (cases_Bool (p t)))
    (λ (b : u ≤ t).
    let e : t ≡ u = omega arith in
    let left : k ≡ t + suc k - (t + 1) = omega arith in
    subst (λ v. filter p (range_with_len t (suc k)) ≡ v ∷ filter p (range_with_len (v + 1) (t + suc k - (v + 1)))) e
    (keeps p t (range_with_len (t + 1) k) (subst (λ v. p v ≡ true) (sym e) h.1) ∙ ap (λ j. t ∷ filter p (range_with_len (t + 1) j)) left))
    (cases_lt t u)

none_kept : (p : ℕ → Bool) (k t : ℕ) → Least p t None → filter p (range_with_len t k) ≡ []
none_kept p zero t h = refl
none_kept p (suc k) t h =
    ⊎_elim (λ e. absurd (h t (omega arith) e)) (λ e. leaves p t (range_with_len (t + 1) k) e ∙ none_kept p k (t + 1) (λ v m. h v (omega arith))) (cases_Bool (p t))

pub none_left : (m : Meaning) (s t : ℕ) → Least (m.step s) t None → targets m s t ≡ []
none_left m s t h = none_kept (m.step s) (m.states - t) t h

pub first_left : (m : Meaning) (s t u : ℕ) → Lawful m → Least (m.step s) t (Some u) → targets m s t ≡ u ∷ targets m s (u + 1)
first_left m s t u law h =
    let z = h.0 in
    let i = law.steps_to s u h.1 in
    let j : t + (m.states - t) ≡ m.states = omega arith in
    first_kept (m.step s) (m.states - t) t u h (omega arith) ∙ ap (λ k. u ∷ filter (m.step s) (range_with_len (u + 1) (k - (u + 1)))) j

passes : (p : ℕ → Bool) (xs : List ℕ) (k : ℕ) → k < length (filter p xs) → p (get_or (filter p xs) k 0) ≡ true
passes p [] = λ k h. absurd (omega arith)
passes p (x ∷ xs) =
    ⊎_elim (λ e. subst (λ ys. (k : ℕ) → k < length ys → p (get_or ys k 0) ≡ true) (sym (keeps p x xs e)) (go e (passes p xs)))
    (λ e. subst (λ ys. (k : ℕ) → k < length ys → p (get_or ys k 0) ≡ true) (sym (leaves p x xs e)) (passes p xs)) (cases_Bool (p x))
  where
    go : p x ≡ true → ((k : ℕ) → k < length (filter p xs) → p (get_or (filter p xs) k 0) ≡ true) → (k : ℕ) → k < length (x ∷ filter p xs) → p (get_or (x ∷ filter p xs) k 0) ≡ true
    go e f zero h = e
    go e f (suc k) h = f k (omega arith)

-- u is in a list
abbrev pub Among : ℕ → List ℕ → Type 0
Among u ys = (k : ℕ) × (k < length ys) × (get_or ys k 0 ≡ u)

kept : (p : ℕ → Bool) (n t u : ℕ) → p u ≡ true → t ≤ u → u < t + n → Among u (filter p (range_with_len t n))
kept p zero t u e l h = absurd (omega arith)
kept p (suc n) t u e l h =
    ⊎_elim
    (λ (b : t < u).
    let r = kept p n (t + 1) u e (omega arith) (omega arith) in
    ⊎_elim (λ i. subst (λ ys. Among u ys) (sym (keeps p t (range_with_len (t + 1) n) i)) (suc r.0, (let q = r.1 in omega arith), r.2))
    (λ i. subst (λ ys. Among u ys) (sym (leaves p t (range_with_len (t + 1) n) i)) r) (cases_Bool (p t)))
    (λ (b : u ≤ t).
    let i : t ≡ u = omega arith in
    subst (λ ys. Among u ys) (sym (keeps p t (range_with_len (t + 1) n) (subst (λ v. p v ≡ true) (sym i) e))) (0, omega arith, i))
    (cases_lt t u)

pub among : (m : Meaning) (s u : ℕ) → Lawful m → m.step s u ≡ true → Among u (targets m s 0)
among m s u law e = let l = law.steps_to s u e in kept (m.step s) (m.states - 0) 0 u e (omega arith) (omega arith)

-- an item of a run over the steps of s, with none of a lower ρ
module _ {S : Type 0} (rest : S → List ℕ) (p : Run (YieldsFirst rest)) (m : Meaning) (law : Lawful m) (s : ℕ) (from : rest p.from ≡ targets m s 0) (w : p.whole ≡ true) where
  at : (k : ℕ) → k < p.len → p.at k ≡ Some (get_or (targets m s 0) k 0)
  at k l = sym (option_map_id (p.at k)) ∙ (rw from at ((run_of_first rest p).1.2 k 0 l))

  pub chosen : (ρ : ℕ → ℕ) (u : ℕ) → AnyItem p (λ x. x ≡ u) → AllItems p (λ x. ρ u ≤ ρ x) → Goes m ρ s u
  chosen ρ u (k, l, e) best =
      let all : p.len ≡ length (targets m s 0) = rw from at ((run_of_first rest p).1.1 w) in
      record {
        step = subst (λ v. m.step s v ≡ true) (subst (λ o. IsSomeAnd o (λ x. x ≡ u)) (at k l) e) (passes (m.step s) (range_with_len 0 (m.states - 0)) k (omega arith));
        least = λ v step. let a = among m s v law step in subst (λ x. ρ u ≤ ρ x) a.2 (subst (λ o. IfSome o (λ x. ρ u ≤ ρ x)) (at a.0 (omega (arith, a.1))) (best a.0));
      }

-- whether any step leads into T tells whether some do, or all, by which is asked
module _ (m : Meaning) (law : Lawful m) (T : Set) (s : ℕ) where
  pub any_step : (some r : Bool) → MatchBool r ((k : ℕ) × (k < length (targets m s 0)) × HoldsAt (λ u. beq (T u) some ≡ true) (targets m s 0) k) (AllWithin (λ u. beq (T u) some ≡ false) (targets m s 0) 0 (length (targets m s 0))) → beq r some ≡ pre m (ours some) T s
  any_step some true (k, l, h) =
      let u = get_or (targets m s 0) k 0 in
      let step = passes (m.step s) (range_with_len 0 (m.states - 0)) k l in
      beq_true some ∙ hit m T s some u (law.steps_to s u step) step (same (T u) some (h 0))
    where
      beq_true : (b : Bool) → beq true b ≡ b
      beq_true true = refl
      beq_true false = refl
  any_step some false h =
      beq_false some
      ∙ miss m T s some
      (λ u l step.
      let a = among m s u law step in
      other (T u) some (subst (λ v. beq (T v) some ≡ false) a.2 (h a.0 0 (omega arith) a.1)))
    where
      beq_false : (b : Bool) → beq false b ≡ not b
      beq_false true = refl
      beq_false false = refl
