-- What a row's degrees rest on, kind by kind.
use Rattle.std.proofs.Common.{◌≡◌, ℕ, ◌<◌, ◌≤◌, sym, refl, ap, subst, ⊎_elim, arith}
use Rattle.std.proofs.lemmas.Bool.{cases_eq}
use Rattle.logic.specs.Formulas.{Formula}
use Rattle.logic.specs.Kinds.{Kind}
use Rattle.logic.specs.Kinds.Kind.{prop, or, and, neg, imp, path}
use Rattle.logic.specs.Satisfaction.{row_degree, degree}
use Rattle.logic.specs.Walks.Operator.{next, finally, globally, until, weak}
use Rattle.logic.specs.Walks.Quantifier.{some_walk, every_walk}
use Rattle.logic.proofs.Rows.{row_degree_is_value, value_unique}
use Rattle.model.specs.Meaning.{Meaning, Lawful}
use Rattle.model.specs.Walkable.{Total}
use Rattle.scale.specs.Grades.{Grades, Lawful as Orderly}
use Rattle.sheet.specs.Histories.{formula_by}
use Rattle.sheet.specs.Kinds.{operands_of, kind_of}

-- what holds of the fifteen numbers holds of every kind's number
pub by_kinds : (P : ℕ → Type 0) → P 1 → P 2 → P 3 → P 4 → P 5 → P 6 → P 7 → P 8 → P 9 → P 10 → P 11 → P 12 → P 13 → P 14 → P 15 → (k : ℕ) → 1 ≤ k → k ≤ 15 → P k
by_kinds P p1 p2 p3 p4 p5 p6 p7 p8 p9 p10 p11 p12 p13 p14 p15 k low high =
    ⊎_elim (λ (e : k ≡ 1). subst P (sym e) p1) (λ (n1 : k ≡ 1 → ⊥).
    ⊎_elim (λ (e : k ≡ 2). subst P (sym e) p2) (λ (n2 : k ≡ 2 → ⊥).
    ⊎_elim (λ (e : k ≡ 3). subst P (sym e) p3) (λ (n3 : k ≡ 3 → ⊥).
    ⊎_elim (λ (e : k ≡ 4). subst P (sym e) p4) (λ (n4 : k ≡ 4 → ⊥).
    ⊎_elim (λ (e : k ≡ 5). subst P (sym e) p5) (λ (n5 : k ≡ 5 → ⊥).
    ⊎_elim (λ (e : k ≡ 6). subst P (sym e) p6) (λ (n6 : k ≡ 6 → ⊥).
    ⊎_elim (λ (e : k ≡ 7). subst P (sym e) p7) (λ (n7 : k ≡ 7 → ⊥).
    ⊎_elim (λ (e : k ≡ 8). subst P (sym e) p8) (λ (n8 : k ≡ 8 → ⊥).
    ⊎_elim (λ (e : k ≡ 9). subst P (sym e) p9) (λ (n9 : k ≡ 9 → ⊥).
    ⊎_elim (λ (e : k ≡ 10). subst P (sym e) p10) (λ (n10 : k ≡ 10 → ⊥).
    ⊎_elim (λ (e : k ≡ 11). subst P (sym e) p11) (λ (n11 : k ≡ 11 → ⊥).
    ⊎_elim (λ (e : k ≡ 12). subst P (sym e) p12) (λ (n12 : k ≡ 12 → ⊥).
    ⊎_elim (λ (e : k ≡ 13). subst P (sym e) p13) (λ (n13 : k ≡ 13 → ⊥).
    ⊎_elim (λ (e : k ≡ 14). subst P (sym e) p14) (λ (n14 : k ≡ 14 → ⊥).
    ⊎_elim (λ (e : k ≡ 15). subst P (sym e) p15) (λ (n15 : k ≡ 15 → ⊥).
    absurd (omega (arith, n1, n2, n3, n4, n5, n6, n7, n8, n9, n10, n11, n12, n13, n14, n15))) (cases_eq k 15)) (cases_eq k 14)) (cases_eq k 13)) (cases_eq k 12)) (cases_eq k 11)) (cases_eq k 10)) (cases_eq k 9)) (cases_eq k 8)) (cases_eq k 7)) (cases_eq k 6)) (cases_eq k 5)) (cases_eq k 4)) (cases_eq k 3)) (cases_eq k 2)) (cases_eq k 1)

module _ (m : Meaning) (law : Lawful m) (total : Total m) (g : Grades) (orderly : Orderly g) where
  abbrev Agree : (ℕ → ℕ) → (ℕ → ℕ) → Type 0
  Agree a b = (s : ℕ) → s < m.states → a s ≡ b s

  -- operands with the same degrees at every state give a row the same degrees
  same_row : (k : Kind) (a b a' b' : ℕ → ℕ) → Agree a a' → Agree b b' → Agree (row_degree m g k a b) (row_degree m g k a' b')
  same_row k a b a' b' ea eb s here =
      value_unique m law total g orderly k a b a' b' ea eb s _ _ here (row_degree_is_value m law total g orderly k a b s here) (row_degree_is_value m law total g orderly k a' b' s here)

  -- only those operands count that the kind has
  abbrev Rests : ℕ → ℕ → Type 0
  Rests p k = (a b a' b' : ℕ → ℕ) → ((k ≡ 1 → ⊥) → Agree a a') → (operands_of k ≡ 2 → Agree b b') → Agree (row_degree m g (kind_of k p) a b) (row_degree m g (kind_of k p) a' b')

  pub rests : (p k : ℕ) → 1 ≤ k → k ≤ 15 → Rests p k
  rests p =
      by_kinds (Rests p) (λ a b a' b' ea eb s here. refl)
      (two 2 (λ e. omega arith) or)
      (two 3 (λ e. omega arith) and)
      (one 4 (λ e. omega arith) neg)
      (two 5 (λ e. omega arith) imp)
      (one 6 (λ e. omega arith) (path some_walk next))
      (one 7 (λ e. omega arith) (path some_walk finally))
      (one 8 (λ e. omega arith) (path some_walk globally))
      (two 9 (λ e. omega arith) (path some_walk until))
      (two 10 (λ e. omega arith) (path some_walk weak))
      (one 11 (λ e. omega arith) (path every_walk next))
      (one 12 (λ e. omega arith) (path every_walk finally))
      (one 13 (λ e. omega arith) (path every_walk globally))
      (two 14 (λ e. omega arith) (path every_walk until))
      (two 15 (λ e. omega arith) (path every_walk weak))
    where
      two : (i : ℕ) → (i ≡ 1 → ⊥) → (k : Kind) (a b a' b' : ℕ → ℕ) → ((i ≡ 1 → ⊥) → Agree a a') → (◌≡◌ {A = ℕ} 2 2 → Agree b b') → Agree (row_degree m g k a b) (row_degree m g k a' b')
      two i ne k a b a' b' ea eb = same_row k a b a' b' (ea ne) (eb refl)

      one : (i : ℕ) → (i ≡ 1 → ⊥) → (k : Kind) (a b a' b' : ℕ → ℕ) → ((i ≡ 1 → ⊥) → Agree a a') → (operands_of i ≡ 2 → Agree b b') → Agree (row_degree m g k a b) (row_degree m g k a' b)
      one i ne k a b a' b' ea eb = same_row k a b a' b (ea ne) (λ s here. refl)

-- the degree of a formula is that of its row
pub degree_by : (m : Meaning) (g : Grades) (k : Kind) (f h : Formula) (s : ℕ) → degree m g (formula_by k f h) s ≡ row_degree m g k (degree m g f) (degree m g h) s
unfolding degree
degree_by m g (prop p) f h s = refl
degree_by m g or f h s = refl
degree_by m g and f h s = refl
degree_by m g neg f h s = refl
degree_by m g imp f h s = refl
degree_by m g (path q next) f h s = refl
degree_by m g (path q finally) f h s = refl
degree_by m g (path q globally) f h s = refl
degree_by m g (path q until) f h s = refl
degree_by m g (path q weak) f h s = refl

-- a row's formula rests on the formulas of those operands that its kind has
module _ (f h f' h' : Formula) where
  abbrev Alike : ℕ → ℕ → Type 0
  Alike p k = ((k ≡ 1 → ⊥) → f ≡ f') → (operands_of k ≡ 2 → h ≡ h') → formula_by (kind_of k p) f h ≡ formula_by (kind_of k p) f' h'

  pub alike : (p k : ℕ) → 1 ≤ k → k ≤ 15 → Alike p k
  alike p =
      by_kinds (Alike p) (λ ef eh. refl)
      (λ ef eh. two or (ef (λ e. omega arith)) (eh refl))
      (λ ef eh. two and (ef (λ e. omega arith)) (eh refl))
      (λ ef eh. ap (λ (f : Formula). formula_by neg f h) (ef (λ e. omega arith)))
      (λ ef eh. two imp (ef (λ e. omega arith)) (eh refl))
      (λ ef eh. ap (λ (f : Formula). formula_by (path some_walk next) f h) (ef (λ e. omega arith)))
      (λ ef eh. ap (λ (f : Formula). formula_by (path some_walk finally) f h) (ef (λ e. omega arith)))
      (λ ef eh. ap (λ (f : Formula). formula_by (path some_walk globally) f h) (ef (λ e. omega arith)))
      (λ ef eh. two (path some_walk until) (ef (λ e. omega arith)) (eh refl))
      (λ ef eh. two (path some_walk weak) (ef (λ e. omega arith)) (eh refl))
      (λ ef eh. ap (λ (f : Formula). formula_by (path every_walk next) f h) (ef (λ e. omega arith)))
      (λ ef eh. ap (λ (f : Formula). formula_by (path every_walk finally) f h) (ef (λ e. omega arith)))
      (λ ef eh. ap (λ (f : Formula). formula_by (path every_walk globally) f h) (ef (λ e. omega arith)))
      (λ ef eh. two (path every_walk until) (ef (λ e. omega arith)) (eh refl))
      (λ ef eh. two (path every_walk weak) (ef (λ e. omega arith)) (eh refl))
    where
      two : (k : Kind) → f ≡ f' → h ≡ h' → formula_by k f h ≡ formula_by k f' h'
      two k ef eh = λ i. formula_by k (ef i) (eh i)
