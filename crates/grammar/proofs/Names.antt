-- The names of the kinds.
use Rattle.std.proofs.Common.{◌≡◌, ℕ, ◌+◌, Bool, true, false, cond, eqb, List, [], ◌∷◌, ◌++◌, length, Some, None, Ok, Err, codes, sym, refl, ap, ◌∙◌, subst}
use mathlib.Core.Path.{fun_ext}
use Rattle.logic.specs.Formulas.{Unary, Binary}
use Rattle.logic.specs.Formulas.Unary.{neg, X, F, G}
use Rattle.logic.specs.Formulas.Binary.{or, and, imp, U, W}
use Rattle.logic.specs.Walks.{Quantifier}
use Rattle.logic.specs.Walks.Quantifier.{some_walk, every_walk}
use Rattle.sheet.specs.Kinds.{operands_of, name_of}
use Rattle.text.specs.declared.fault.ReadFault.TheVariants.{Form}
use Rattle.text.specs.Reads.{Got, and_then, need, choose, word_at}
use Rattle.text.specs.Formulas.{operator_at, capital, name_at}
use Rattle.grammar.specs.Languages.{Word}
use Rattle.grammar.specs.Scripts.{number_of, number_of_binary}
use Rattle.grammar.proofs.Readings.{Lang, Law, Fine, Reads, Any}
use Rattle.grammar.proofs.Binds.{value, law_bind, law_map, law_choose}
use Rattle.grammar.proofs.Words.{law_word, word_reads}

-- a kind: a proposition, or an operator on one or on two formulas
pub data Head : Type 0 where
  atom : Head
  one : Unary → Head
  two : Binary → Head

abbrev pub number : Head → ℕ
number atom = 1
number (one k) = number_of k
number (two k) = number_of_binary k

abbrev pub Name : Lang ℕ
Name b k w = (h : Head) × (k ≡ number h) × (w ≡ name_of (number h))

-- the letters cs, which stand for k
abbrev spell : List ℕ → ℕ → List ℕ → Got ℕ
spell cs k l = and_then (need (word_at cs l)) (λ _ left. Ok (k, left))

law_spell : {S : Lang ℕ} (cs : List ℕ) (k : ℕ) → ((b : Bool) → S b k cs) → Law (spell cs k) S
law_spell {S} cs k in-S = law_map (λ b z w (_, e, s). subst (λ y. S b y w) (sym e) (subst (S b k) (sym s) (in-S b))) (value (λ _. k) (word_reads Any cs (λ _. tt))).law

-- the five letters after E or A, as choices

abbrev letters : ℕ → List ℕ → Got ℕ
letters k = choose 88 (spell (88 ∷ []) k) (choose 70 (spell (70 ∷ []) (k + 1)) (choose 71 (spell (71 ∷ []) (k + 2)) (choose 85 (spell (85 ∷ []) (k + 3)) (spell (87 ∷ []) (k + 4)))))

-- the byte b, which passes or fails the test t
abbrev taken : Bool → ℕ → ℕ → List ℕ → Got ℕ
taken t k b l = and_then (need {T = Unit {0}} (cond t (Some tt, l) (None, b ∷ l))) (λ _ left. Ok (k, left))

first : (t : Bool) (k b : ℕ) (l : List ℕ) {x y : Got ℕ} → x ≡ y → cond t (taken t k b l) x ≡ cond t (Ok (k, l)) y
first true k b l e = refl
first false k b l e = e

last : (t : Bool) (k b : ℕ) (l : List ℕ) → taken t k b l ≡ cond t (Ok (k, l)) (Err (Form (length (b ∷ l))))
last true k b l = refl
last false k b l = refl

operator_letters : (k : ℕ) (l : List ℕ) → letters k l ≡ operator_at k l
operator_letters k [] = refl
operator_letters k (b ∷ l) =
    first (eqb b 88) k b l (first (eqb b 70) (k + 1) b l (first (eqb b 71) (k + 2) b l (first (eqb b 85) (k + 3) b l (last (eqb b 87) (k + 4) b l))))

-- k is the kind's number, and cs its name
abbrev Names : List ℕ → ℕ → Head → Type 0
Names cs k h = (k ≡ number h) × (cs ≡ name_of (number h))

-- E or A, and then a letter: k is the kind with X
law_capital : (c k : ℕ) (q : Quantifier) → Names (c ∷ 88 ∷ []) k (one (X q)) → Names (c ∷ 70 ∷ []) (k + 1) (one (F q)) → Names (c ∷ 71 ∷ []) (k + 2) (one (G q)) → Names (c ∷ 85 ∷ []) (k + 3) (two (U q)) → Names (c ∷ 87 ∷ []) (k + 4) (two (W q)) → Law (capital c k) Name
law_capital c k q nx nf ng nu nw =
    law_map (λ b z v (_, (a, l, e, s, n)). subst (Name b z) (sym (e ∙ ap (λ y. y ++ l) s)) n)
    (law_bind (λ l. need (word_at (c ∷ []) l)) (λ _. operator_at k) (λ _ _. Word (c ∷ [])) (λ _ b z l. Name b z (c ∷ l)) (law_word (c ∷ []))
    (λ _. subst (λ H. Law H (λ b z l. Name b z (c ∷ l))) (fun_ext (operator_letters k))
    (law_choose 88 (law_spell (88 ∷ []) k (λ b. (one (X q), nx.0, nx.1)))
    (law_choose 70 (law_spell (70 ∷ []) (k + 1) (λ b. (one (F q), nf.0, nf.1)))
    (law_choose 71 (law_spell (71 ∷ []) (k + 2) (λ b. (one (G q), ng.0, ng.1)))
    (law_choose 85 (law_spell (85 ∷ []) (k + 3) (λ b. (two (U q), nu.0, nu.1))) (law_spell (87 ∷ []) (k + 4) (λ b. (two (W q), nw.0, nw.1))))))))
    (λ _. (k, 88 ∷ [], (one (X q), nx.0, nx.1))))

law_name : Law name_at Name
law_name =
    law_choose 69 (law_capital 69 6 some_walk (refl, refl) (refl, refl) (refl, refl) (refl, refl) (refl, refl))
    (law_choose 65 (law_capital 65 11 every_walk (refl, refl) (refl, refl) (refl, refl) (refl, refl) (refl, refl))
    (law_choose 111 (law_spell (name_of 2) 2 (λ b. (two or, refl, refl)))
    (law_choose 97 (law_spell (name_of 3) 3 (λ b. (two and, refl, refl)))
    (law_choose 110 (law_spell (name_of 4) 4 (λ b. (one neg, refl, refl)))
    (law_choose 105 (law_spell (name_of 5) 5 (λ b. (two imp, refl, refl))) (law_spell (name_of 1) 1 (λ b. (atom, refl, refl))))))))

-- a number stands behind it, or two formulas; else one

abbrev pub is_atom : Head → Bool
is_atom atom = true
is_atom (one k) = false
is_atom (two k) = false

abbrev pub is_two : Head → Bool
is_two atom = false
is_two (one k) = false
is_two (two k) = true

-- a name is read as its kind, and the kind's number says what stands behind it
abbrev Known : Head → Type 0
Known h = ((left : List ℕ) → name_at (name_of (number h) ++ left) ≡ Ok (number h, left)) × (eqb (number h) 1 ≡ is_atom h) × (eqb (operands_of (number h)) 2 ≡ is_two h)

pub known : (h : Head) → Known h
known atom = (λ left. refl, refl, refl)
known (one neg) = (λ left. refl, refl, refl)
known (one (X some_walk)) = (λ left. refl, refl, refl)
known (one (X every_walk)) = (λ left. refl, refl, refl)
known (one (F some_walk)) = (λ left. refl, refl, refl)
known (one (F every_walk)) = (λ left. refl, refl, refl)
known (one (G some_walk)) = (λ left. refl, refl, refl)
known (one (G every_walk)) = (λ left. refl, refl, refl)
known (two or) = (λ left. refl, refl, refl)
known (two and) = (λ left. refl, refl, refl)
known (two imp) = (λ left. refl, refl, refl)
known (two (U some_walk)) = (λ left. refl, refl, refl)
known (two (U every_walk)) = (λ left. refl, refl, refl)
known (two (W some_walk)) = (λ left. refl, refl, refl)
known (two (W every_walk)) = (λ left. refl, refl, refl)

pub name_reads : Reads name_at Name Any Any
name_reads =
    record {
      law = law_name;
      full = λ b k w left (h, e, s) t.
          subst (λ y. Fine b (name_at (w ++ left)) y left) (sym e)
          (subst (λ l. Fine b (name_at (l ++ left)) (number h) left) (sym s) (subst (λ g. Fine b g (number h) left) (sym ((known h).0 left)) refl));
      start = λ b k w left s t. tt;
      some = (1, codes "p", (atom, refl, refl));
    }
