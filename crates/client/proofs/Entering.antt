-- Three rows entered on a new sheet: what the last stands for.
use Rattle.std.specs.Result.{result_ok}
use Rattle.std.proofs.Common.{◌≡◌, ℕ, ◌*◌, ◌<◌, ◌≤◌, List, [], ◌∷◌, length, Ok, Err, Result, sym, refl, ap, ◌∙◌, subst, arith}
use Rattle.logic.specs.Formulas.{Formula, Truth}
use Rattle.logic.specs.Formulas.Formula.{prop, unary}
use Rattle.logic.specs.Formulas.Unary.{neg, G}
use Rattle.logic.specs.Walks.Quantifier.{every_walk}
use Rattle.model.specs.Faults.{Refusal}
use Rattle.model.specs.Meaning.{Meaning, Lawful}
use Rattle.scale.specs.Grades.{Grades, Lawful as Orderly}
use Rattle.sheet.specs.Calls.{open_answer, enter_answer, enter_leaves}
use Rattle.sheet.specs.Faults.{answer}
use Rattle.sheet.specs.Histories.{History, opened, entered, formula_at, standing, AsksWalks, TrueWalk, DegreeIsTrue, WalkIsTrue}
use Rattle.sheet.specs.States.{State}
use Rattle.sheet.specs.declared.row.Row.{Row}
use Rattle.sheet.proofs.Accepted.{accepted}
use Rattle.sheet.specs.declared.fault.SheetFault.{SheetFault}
use Rattle.sheet.proofs.Kept.{kept}
use Rattle.client.specs.Promise.{never_holds, Broken}

abbrev pub row : ℕ → ℕ → Row
row k x = record { kind = k; a = x; b = 0 }

-- a sheet with a history, whose row n stands for "p never holds"
pub record Standing (m : Meaning) (g : Grades) (p : ℕ) (s : State) (n : ℕ) : Type 0 where
  pub formulas : List Formula
  pub history : History m g s formulas
  pub there : n < length formulas
  pub is : formula_at formulas n ≡ never_holds p

module _ (m : Meaning) (law : Lawful m) (g : Grades) (orderly : Orderly g) where
  -- a row's number is the count of the rows before it
  pub numbered : {s : State} {fs : List Formula} (x : Row) (n : ℕ) → History m g s fs → Ok n ≡ enter_answer m g s x → n ≡ length fs
  numbered {s} {fs} x n h a = (accepted m law g s x n a).number ∙ (kept m law g orderly h).count

  rows_stand : (p a b c : ℕ) (s0 s1 s2 s3 : State) (rs : List Row) (bs : List ℕ) → Ok s0 ≡ open_answer m g rs bs →
      Ok a ≡ enter_answer m g s0 (row 1 p) → s1 ≡ enter_leaves m g s0 (row 1 p) →
      Ok b ≡ enter_answer m g s1 (row 4 a) → s2 ≡ enter_leaves m g s1 (row 4 a) →
      Ok c ≡ enter_answer m g s2 (row 13 b) → s3 ≡ enter_leaves m g s2 (row 13 b) → Standing m g p s3 c
  rows_stand p a b c s0 s1 s2 s3 rs bs o a1 l1 a2 l2 a3 l3 =
      let f1 : Formula = prop p in
      let f2 : Formula = unary neg f1 in
      let h0 : History m g s0 [] = opened rs bs o in
      let e1 : a ≡ 0 = numbered (row 1 p) a h0 a1 in
      let h1 : History m g s1 (f1 ∷ []) = subst (History m g s1) (λ i. standing [] (e1 i) f1) (entered (row 1 p) a h0 a1 l1) in
      let e2 : b ≡ 1 = numbered (row 4 a) b h1 a2 in
      let h2 : History m g s2 (f1 ∷ f2 ∷ []) = subst (History m g s2) (λ i. standing (f1 ∷ []) (e2 i) (unary neg (formula_at (f1 ∷ []) (e1 i)))) (entered (row 4 a) b h1 a2 l2) in
      let e3 : c ≡ 2 = numbered (row 13 b) c h2 a3 in
      let h3 : History m g s3 (f1 ∷ f2 ∷ never_holds p ∷ []) = subst (History m g s3) (λ i. standing (f1 ∷ f2 ∷ []) (e3 i) (unary (G every_walk) (formula_at (f1 ∷ f2 ∷ []) (e2 i)))) (entered (row 13 b) c h2 a3 l3) in
      record { formulas = f1 ∷ f2 ∷ never_holds p ∷ []; history = h3; there = omega arith; is = ap (formula_at (f1 ∷ f2 ∷ never_holds p ∷ [])) e3 }

  -- the same of any rows that are these
  pub stands : (p a b c : ℕ) (s0 s1 s2 s3 : State) (rs : List Row) (bs : List ℕ) → Ok s0 ≡ open_answer m g rs bs →
      (x y z : Row) → x ≡ row 1 p → y ≡ row 4 a → z ≡ row 13 b →
      Ok a ≡ enter_answer m g s0 x → s1 ≡ enter_leaves m g s0 x → Ok b ≡ enter_answer m g s1 y → s2 ≡ enter_leaves m g s1 y →
      Ok c ≡ enter_answer m g s2 z → s3 ≡ enter_leaves m g s2 z → Standing m g p s3 c
  stands p a b c s0 s1 s2 s3 rs bs o x y z ex ey ez a1 l1 a2 l2 a3 l3 =
      rows_stand p a b c s0 s1 s2 s3 rs bs o
      (a1 ∙ ap (enter_answer m g s0) ex) (l1 ∙ ap (enter_leaves m g s0) ex) (a2 ∙ ap (enter_answer m g s1) ey) (l2 ∙ ap (enter_leaves m g s1) ey)
      (a3 ∙ ap (enter_answer m g s2) ez) (l3 ∙ ap (enter_leaves m g s2) ez)

-- what the laws say of that row
module _ (m : Meaning) (law : Lawful m) (g : Grades) (orderly : Orderly g) (p n k l : ℕ) (s : State) (S : Standing m g p s n) where
  pub judged_degree : (v : ℕ) → DegreeIsTrue s n k (Ok v) → k < m.states → (d : ℕ → ℕ) × Truth m g (never_holds p) d × (v ≡ d k)
  judged_degree v true' inside =
      let (d, t, e) = true' m law g orderly S.formulas S.history S.there inside in
      (d, subst (λ (f : Formula). Truth m g f d) S.is t, let same : v ≡ d k = cc in same)

  module _ (ys xs : List ℕ) (inside : k < m.states) (some : 1 ≤ l) (most : l ≤ g.levels) (room : 2 * m.states ≤ length ys) where
    tells : (r : Result (ℕ × ℕ) Refusal) → WalkIsTrue s n k l ys xs r m g → TrueWalk m g (never_holds p) l k ys xs r
    tells r true' =
        subst (λ (f : Formula). TrueWalk m g f l k ys xs r) S.is (true' S.formulas S.history S.there (subst AsksWalks (sym S.is) tt) inside some most room)

    pub judged_walk : (r : Result (ℕ × ℕ) SheetFault) → WalkIsTrue s n k l ys xs (answer r) m g → Broken m g p k l ys xs (result_ok r)
    judged_walk (Ok c) true' = (tells (Ok c) true').shown c.0 c.1 refl
    judged_walk (Err e) true' = λ one. let (a, b, q) = (tells (answer (Err e)) true').granted.0 one in cc
