-- The degrees of a listing are the truth values that the endless walks give.
use Rattle.std.proofs.Common.{◌≡◌, ℕ, ◌+◌, ◌-◌, ◌<◌, ◌≤◌, min, ◌||◌, ltb, leb, List, [], ◌∷◌, ◌++◌, length, Ok, Err, Result, sym, refl, ap, ◌∙◌, subst, arith}
use Rattle.std.proofs.lemmas.Bool.{leb-false}
use Rattle.std.proofs.lemmas.List.{length-append, get_or_append_left, get_or_push, take_all}
use Rattle.logic.specs.Formulas.{Formula, Unary, Binary}
use Rattle.logic.specs.Formulas.Formula.{prop, unary, binary}
use Rattle.logic.specs.Formulas.Unary.{neg, X, F, G}
use Rattle.logic.specs.Formulas.Binary.{or, and, imp, U, W}
use Rattle.logic.specs.Walks.Quantifier.{some_walk, every_walk}
use Rattle.model.specs.Faults.{refusal}
use Rattle.model.specs.Meaning.{Meaning, Lawful}
use Rattle.model.specs.Walkable.{walkability}
use Rattle.scale.specs.Grades.{Grades, Lawful as Orderly}
use Rattle.sheet.specs.Calls.{refuse_if, enter_answer, enter_leaves, entering, fitting, roomy, formed, readable}
use Rattle.sheet.specs.Histories.{History, entered, formula_at, formula_of}
use Rattle.sheet.specs.States.{State}
use Rattle.sheet.specs.declared.row.Row.{Row}
use Rattle.sheet.proofs.Accepted.{passed, checked, accepted}
use Rattle.sheet.proofs.Kept.{kept}
use Rattle.text.specs.Formulas.{row_for}
use Rattle.grammar.proofs.Binds.{clash}
use Rattle.grammar.specs.Scripts.{size, number_of, number_of_binary}
use Rattle.listing.specs.Runs.{then, enter_all}
use Rattle.listing.proofs.Added.{added, some_rows}

-- what was answered first, where something was answered after it
pub then_ok : {A B E : Type 0} (a : Result A E) (f : A → Result B E) (y : B) → Ok y ≡ then a f → (x : A) × (Ok x ≡ a) × (Ok y ≡ f x)
then_ok (Ok x) f y h = (x, refl, h)
then_ok (Err e) f y h = clash cc

-- an answer after which two others follow
then_twice : {A B C E : Type 0} (a : Result A E) (b : Result B E) (f : B → Result C E) (c : Result C E) → c ≡ then b f → then a (λ _. c) ≡ then (then a (λ _. b)) f
then_twice (Ok x) b f c e = e
then_twice (Err x) b f c e = refl

-- the formula of the row that a formula's connective adds
unary_row : (fs : List Formula) (k : Unary) (a : ℕ) → formula_of fs (row_for (number_of k) a 0) ≡ unary k (formula_at fs a)
unary_row fs neg a = refl
unary_row fs (X some_walk) a = refl
unary_row fs (X every_walk) a = refl
unary_row fs (F some_walk) a = refl
unary_row fs (F every_walk) a = refl
unary_row fs (G some_walk) a = refl
unary_row fs (G every_walk) a = refl

binary_row : (fs : List Formula) (k : Binary) (a b : ℕ) → formula_of fs (row_for (number_of_binary k) a b) ≡ binary k (formula_at fs a) (formula_at fs b)
binary_row fs or a b = refl
binary_row fs and a b = refl
binary_row fs imp a b = refl
binary_row fs (U some_walk) a b = refl
binary_row fs (U every_walk) a b = refl
binary_row fs (W some_walk) a b = refl
binary_row fs (W every_walk) a b = refl

-- a state with a history, whose formulas are those before it and then a formula's, its own the last
pub record Grown (m : Meaning) (g : Grades) (fs : List Formula) (f : Formula) (t : State) : Type 0 where
  pub after : List Formula
  pub history : History m g t after
  pub long : length after ≡ length fs + size f
  pub old : (r : ℕ) → r < length fs → formula_at after r ≡ formula_at fs r
  pub last : formula_at after (length fs + size f - 1) ≡ f

module _ (m : Meaning) (g : Grades) where
  -- rows that are entered in two parts
  pub in_parts : (s : State) (xs ys : List Row) → enter_all m g s (xs ++ ys) ≡ then (enter_all m g s xs) (λ t. enter_all m g t ys)
  in_parts s [] ys = refl
  in_parts s (x ∷ xs) ys = then_twice (enter_answer m g s x) (enter_all m g (enter_leaves m g s x) xs) (λ t. enter_all m g t ys) _ (in_parts (enter_leaves m g s x) xs ys)

module _ (m : Meaning) (law : Lawful m) (g : Grades) (orderly : Orderly g) where
  one_entered : (s : State) (fs : List Formula) (x : Row) (t : State) → History m g s fs → Ok t ≡ enter_all m g s (x ∷ []) →
      History m g t (fs ++ (formula_of fs x ∷ [])) × ((n : ℕ) × (Ok n ≡ enter_answer m g s x))
  one_entered s fs x t h e =
      let (n, a, l) = then_ok (enter_answer m g s x) (λ _. Ok (enter_leaves m g s x)) t e in
      let leaves : t ≡ enter_leaves m g s x = cc in
      let all : n ≡ length fs = (accepted m law g s x n a).number ∙ (kept m law g orderly h).count in
      (subst (λ (gs : List Formula). History m g t (gs ++ (formula_of fs x ∷ []))) (take_all n fs (omega (arith, all))) (entered x n h a leaves), (n, a))

  -- an accepted proposition is one of the model's
  is_prop : (s : State) (fs : List Formula) (a n : ℕ) → History m g s fs → Ok n ≡ enter_answer m g s (row_for 1 a 0) → a < m.props
  is_prop s fs a n h e =
      let x = row_for 1 a 0 in
      let all = (passed (entering m g s x) (Ok s.count) n e).0 in
      let walks = (passed (fitting s m g) _ tt all).1 in
      let rooms = (passed (walkability m) _ tt walks).1 in
      let forms = (passed (roomy s) _ tt rooms).1 in
      let form = (passed (formed s x) (readable s x) tt forms).0 in
      let props = (passed (refuse_if (ltb 1 1 || ltb 15 1) (refusal 5 0)) _ tt form).1 in
      let low = (passed (refuse_if (leb s.props a) (refusal 6 0)) _ tt props).0 in
      omega (arith, leb-false s.props a (checked (leb s.props a) (refusal 6 0) tt low), (kept m law g orderly h).props)

  -- the row of a connective, after those of its operands
  closed : (s t : State) (fs gs : List Formula) (f : Formula) (x : Row) → History m g s gs → length gs + 1 ≡ length fs + size f →
      ((r : ℕ) → r < length fs → formula_at gs r ≡ formula_at fs r) → formula_of gs x ≡ f → length fs ≤ length gs → Ok t ≡ enter_all m g s (x ∷ []) → Grown m g fs f t
  closed s t fs gs f x h long old is most e =
      let grown : List Formula = gs ++ (formula_of gs x ∷ []) in
      record {
        after = grown;
        history = (one_entered s gs x t h e).0;
        long = omega (arith, length-append gs (formula_of gs x ∷ []), long);
        old = λ r b. get_or_append_left gs (formula_of gs x ∷ []) _ r (omega (arith, b, most)) ∙ old r b;
        last = get_or_push gs (formula_of gs x) _ (length fs + size f - 1) (omega (arith, long)) ∙ is;
      }

  pub grown : (f : Formula) (s t : State) (fs : List Formula) → History m g s fs → Ok t ≡ enter_all m g s (added (length fs) f) → Grown m g fs f t
  grown (prop i) s t fs h e =
      let (n, a) = (one_entered s fs (row_for 1 (min i 255) 0) t h e).1 in
      let below : min i 255 < m.props = is_prop s fs (min i 255) n h a in
      let same : min i 255 ≡ i = omega (arith, below, law.few_props) in
      closed s t fs fs (prop i) (row_for 1 (min i 255) 0) h refl (λ r b. refl) (ap prop same) (omega arith) e
  grown (unary k f) s t fs h e =
      let x = row_for (number_of k) (length fs + size f - 1) 0 in
      let (u, a, l) = then_ok (enter_all m g s (added (length fs) f)) (λ u. enter_all m g u (x ∷ [])) t (e ∙ in_parts m g s (added (length fs) f) (x ∷ [])) in
      let F = grown f s u fs h a in
      closed u t fs F.after (unary k f) x F.history (omega (arith, F.long)) F.old (unary_row F.after k _ ∙ ap (unary k) F.last) (omega (arith, F.long)) l
  grown (binary k f j) s t fs h e =
      let x = row_for (number_of_binary k) (length fs + size f - 1) (length fs + size f + size j - 1) in
      let first = added (length fs) f in
      let second = added (length fs + size f) j in
      let (v, b, l) = then_ok (enter_all m g s (first ++ second)) (λ u. enter_all m g u (x ∷ [])) t (e ∙ in_parts m g s (first ++ second) (x ∷ [])) in
      let (u, a, c) = then_ok (enter_all m g s first) (λ u. enter_all m g u second) v (b ∙ in_parts m g s first second) in
      let F = grown f s u fs h a in
      let J = grown j u v F.after F.history (c ∙ ap (λ (n : ℕ). enter_all m g u (added n j)) (sym F.long)) in
      let left : formula_at J.after (length fs + size f - 1) ≡ f = J.old (length fs + size f - 1) (omega (arith, F.long, some_rows f)) ∙ F.last in
      let right : formula_at J.after (length fs + size f + size j - 1) ≡ j = ap (λ (n : ℕ). formula_at J.after (n + size j - 1)) (sym F.long) ∙ J.last in
      closed v t fs J.after (binary k f j) x J.history (omega (arith, F.long, J.long))
      (λ r d. J.old r (omega (arith, F.long)) ∙ F.old r d)
      (binary_row J.after k _ _ ∙ ap (λ (y : Formula). binary k y (formula_at J.after (length fs + size f + size j - 1))) left ∙ ap (binary k f) right)
      (omega (arith, F.long, J.long)) l
