-- The degree of a row: where it reaches each level, and that it is the row's one truth value.
use Rattle.std.proofs.Common.{◌≡◌, ℕ, zero, suc, ◌<◌, ◌≤◌, Bool, true, false, cond, not, ◌&&◌, ◌||◌, ltb, leb, ◌↔◌, sym, refl, ap, ◌∙◌, subst, ⊎_elim, arith}
use Rattle.std.proofs.lemmas.Bool.{cases_Bool, cases_lt, cases_order, both_ways, leb-true, leb-false, le-leb, lt-ltb, or_cases, or_left, or_right, and_parts, and_from, not-true, not_from_false}
use Rattle.std.proofs.lemmas.Bool.Decides.{nat_tests}
use Rattle.model.proofs.Below.{every_decides}
use Rattle.model.specs.Below.{every}
use Rattle.model.specs.Meaning.{Meaning, Lawful}
use Rattle.scale.specs.Grades.{Grades, Lawful as Orderly}
use Rattle.logic.specs.Kinds.{reach, Highest}
use Rattle.logic.specs.Kinds.Kind.{prop, or, and, neg, imp, path}
use Rattle.logic.specs.Satisfaction.{sat, highest, row_degree}
use Rattle.logic.specs.Sets.{◌∈◌}
use Rattle.logic.specs.Theorems.{ReachesWhereSat, RowDegreeIsValue, ValueUnique}
use Rattle.logic.specs.Walks.{Operator, Quantifier, Quantified, Meets}
use Rattle.logic.proofs.Levels.{At, read, meets_map, sat_is_walks, path_shrinks}
use Rattle.logic.proofs.Outcomes.{quantified_map, inside}
use Rattle.logic.proofs.Search.{split}

-- the highest number that passes is the highest level of which that holds
pub highest_is : (D : ℕ) (t : ℕ → Bool) (P : ℕ → Type 0) → ((l : ℕ) → 1 ≤ l → l ≤ D → (t l ≡ true) ↔ P l) → Highest D P (highest D t)
highest_is zero t P h = record { bound = omega arith; has = λ z. absurd (omega arith); none_above = λ l a b. absurd (omega arith) }
highest_is (suc n) t P h = go (t (suc n)) refl (highest_is n t P (λ l a b. h l a (omega arith)))
  where
    go : (b : Bool) → t (suc n) ≡ b → Highest n P (highest n t) → Highest (suc n) P (cond b (suc n) (highest n t))
    go true e r = record {
      bound = omega arith;
      has = λ z. (h (suc n) (omega arith) (omega arith)).0 e;
      none_above = λ l a b. absurd (omega arith);
    }
    go false e r = record {
      bound = omega (arith, r.bound);
      has = r.has;
      none_above = λ l a b p.
          ⊎_elim (λ k. r.none_above l a (omega arith) p)
          (λ k. both_ways (t (suc n)) e ((h (suc n) (omega arith) (omega arith)).1 (subst P k p))) (split l (suc n) (omega arith));
    }

-- a level is reached exactly where it passes, as long as what passes passes at each lower level
highest-reaches : (D : ℕ) (t : ℕ → Bool) → ((k l : ℕ) → 1 ≤ k → k ≤ l → l ≤ D → t l ≡ true → t k ≡ true) → (l : ℕ) → 1 ≤ l → l ≤ D → (l ≤ highest D t) ↔ (t l ≡ true)
highest-reaches D t closed l h k =
    let top = highest_is D t (λ l. t l ≡ true) (λ l a b. ((λ e. e), (λ e. e))) in (
      (λ le. closed l (highest D t) h le top.bound (top.has (omega arith))),
      (λ e. ⊎_elim (λ (z : highest D t < l). absurd (top.none_above l z k e)) (λ z. z) (cases_lt (highest D t) l)),
    )

highest_unique : (D : ℕ) (P Q : ℕ → Type 0) → ((l : ℕ) → 1 ≤ l → l ≤ D → P l → Q l) → ((l : ℕ) → 1 ≤ l → l ≤ D → Q l → P l) → (v w : ℕ) → Highest D P v → Highest D Q w → v ≡ w
highest_unique D P Q f g v w x y =
    ⊎_elim (λ e. e)
    (⊎_elim (λ (h : v < w). absurd (x.none_above w h y.bound (g w (omega arith) y.bound (y.has (omega arith)))))
    (λ (h : w < v). absurd (y.none_above v h x.bound (f v (omega arith) x.bound (x.has (omega arith)))))) (cases_order v w)

module _ (m : Meaning) (g : Grades) where
  -- the implication at its highest level: a reaches nothing that b does not
  abbrev Follows : ℕ → ℕ → Bool
  Follows x y = every g.levels (λ k. not (leb (suc k) x) || leb (suc k) y)

  follows_is : (x y : ℕ) → x ≤ g.levels → (x ≤ y) ↔ (Follows x y ≡ true)
  follows_is x y b =
      let d = every_decides (λ k. not (leb (suc k) x) || leb (suc k) y) g.levels in (
        (λ le. d.1 (λ k h. ⊎_elim (λ e. or_right (not (leb (suc k) x)) _ (let z = leb-true (suc k) x e in le-leb (suc k) y (omega arith)))
            (λ e. or_left (not (leb (suc k) x)) _ (not_from_false (leb (suc k) x) e)) (cases_Bool (leb (suc k) x)))),
        (λ e. go x b (d.0 e)),
      )
    where
      go : (x : ℕ) → x ≤ g.levels → ((k : ℕ) → k < g.levels → (not (leb (suc k) x) || leb (suc k) y) ≡ true) → x ≤ y
      go zero b f = omega arith
      go (suc x) b f =
          ⊎_elim (λ e. absurd (both_ways (leb (suc x) (suc x)) (not-true (leb (suc x) (suc x)) e) (le-leb (suc x) (suc x) (omega arith))))
          (λ e. leb-true (suc x) y e) (or_cases (not (leb (suc x) (suc x))) (leb (suc x) y) (f x b))

  imp_reaches : (a b : ℕ → ℕ) (l s : ℕ) → a s ≤ g.levels → l ≤ g.levels → (l ≤ row_degree m g imp a b s) ↔ (s ∈ sat m g imp l a b)
  imp_reaches a b l s ha le = go (leb (a s) (b s)) refl
    where
      D : ℕ
      D = g.levels

      both : (a s ≤ b s) ↔ (Follows (a s) (b s) ≡ true)
      both = follows_is (a s) (b s) ha

      go : (x : Bool) → leb (a s) (b s) ≡ x → (l ≤ cond x g.levels (b s)) ↔ (s ∈ sat m g imp l a b)
      go true e = ((λ z. or_left (Follows (a s) (b s)) _ (both.0 (leb-true (a s) (b s) e))), (λ z. le))
      go false e =
          let above = leb-false (a s) (b s) e in (
            (λ z. or_right (Follows (a s) (b s)) _ (and_from (ltb l g.levels) (leb l (b s)) (lt-ltb l g.levels (omega arith)) (le-leb l (b s) z))),
            (λ z. ⊎_elim (λ w. let low = both.1 w in absurd (omega arith)) (λ w. leb-true l (b s) (and_parts (ltb l g.levels) (leb l (b s)) w).1)
                (or_cases (Follows (a s) (b s)) (ltb l g.levels && leb l (b s)) z)),
          )

pub reaches_where_sat : ReachesWhereSat
reaches_where_sat m law total g orderly (prop p) a b ha hb l s h le here = (λ e. grind (arith, nat_tests), λ e. grind (arith, nat_tests))
reaches_where_sat m law total g orderly or a b ha hb l s h le here = (λ e. grind (arith, nat_tests), λ e. grind (arith, nat_tests))
reaches_where_sat m law total g orderly and a b ha hb l s h le here = (λ e. grind (arith, nat_tests), λ e. grind (arith, nat_tests))
reaches_where_sat m law total g orderly neg a b ha hb l s h le here = (λ e. grind (arith, nat_tests), λ e. grind (arith, nat_tests))
reaches_where_sat m law total g orderly imp a b ha hb l s h le here = imp_reaches m g a b l s (ha s here) le
reaches_where_sat m law total g orderly (path q op) a b ha hb l s h le here =
    highest-reaches g.levels (λ l. sat m g (path q op) l a b s)
    (λ k l h le b' e. path_shrinks m law total g orderly q op a b k l h le b' s here e) l h le

pub row_degree_is_value : RowDegreeIsValue
row_degree_is_value m law total g orderly (prop p) a b s here = refl
row_degree_is_value m law total g orderly or a b s here = refl
row_degree_is_value m law total g orderly and a b s here = refl
row_degree_is_value m law total g orderly neg a b s here = refl
row_degree_is_value m law total g orderly imp a b s here = refl
row_degree_is_value m law total g orderly (path q op) a b s here =
    highest_is g.levels (λ l. sat m g (path q op) l a b s) (At m law total g orderly q op a b s)
    (λ l h le. sat_is_walks m law total g orderly q op a b l s h le here)

-- operands that agree at every state are alike along a walk
module _ (m : Meaning) (law : Lawful m) (g : Grades) (orderly : Orderly g) (q : Quantifier) (op : Operator) (s : ℕ) where
  agree : (a b a' b' : ℕ → ℕ) → ((s : ℕ) → s < m.states → a s ≡ a' s) → ((s : ℕ) → s < m.states → b s ≡ b' s) → (l : ℕ) → 1 ≤ l → l ≤ g.levels
      → Quantified q m s (Meets op (g.reading l) (reach a l) (reach b l)) → Quantified q m s (Meets op (g.reading l) (reach a' l) (reach b' l))
  agree a b a' b' ea eb l h le z =
      let (r, e) = read g orderly l h le in
      quantified_map q m s (Meets op (g.reading l) (reach a l) (reach b l)) (Meets op (g.reading l) (reach a' l) (reach b' l))
      (λ π w y. subst (λ o. Meets op o (reach a' l) (reach b' l) π) (sym e)
      (meets_map op r r (omega arith) π (reach a l) (reach a' l) (reach b l) (reach b' l)
      (λ i x. subst (λ v. leb l v ≡ true) (ea (π i) (inside m law s π w i)) x) (λ i x. subst (λ v. leb l v ≡ true) (eb (π i) (inside m law s π w i)) x)
      (subst (λ o. Meets op o (reach a l) (reach b l) π) e y))) z

pub value_unique : ValueUnique
value_unique m law total g orderly (prop p) a b a' b' ea eb s v v' here x y = x ∙ sym y
value_unique m law total g orderly or a b a' b' ea eb s v v' here x y = let p = ea s here in let q = eb s here in cc
value_unique m law total g orderly and a b a' b' ea eb s v v' here x y = let p = ea s here in let q = eb s here in cc
value_unique m law total g orderly neg a b a' b' ea eb s v v' here x y = x ∙ ap (λ n. cond (leb g.levels n) 0 g.levels) (ea s here) ∙ sym y
value_unique m law total g orderly imp a b a' b' ea eb s v v' here x y =
    x ∙ ap (λ n. cond (leb n (b s)) g.levels (b s)) (ea s here) ∙ ap (λ n. cond (leb (a' s) n) g.levels n) (eb s here) ∙ sym y
value_unique m law total g orderly (path q op) a b a' b' ea eb s v v' here x y =
    highest_unique g.levels _ _ (agree m law g orderly q op s a b a' b' ea eb)
    (agree m law g orderly q op s a' b' a b (λ s h. sym (ea s h)) (λ s h. sym (eb s h))) v v' x y
