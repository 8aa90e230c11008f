-- Any line after the model's.
use Rattle.std.proofs.Common.{◌≡◌, ℕ, suc, Bool, true, false, cond, eqb, List, [], ◌∷◌, ◌++◌, length, Some, None, codes, sym, refl, ap, ◌∙◌, subst}
use Rattle.std.proofs.lemmas.Bool.{cond-true, cond-false, eq-eqb, eqb-true}
use Rattle.text.specs.declared.script.Source.{Source}
use Rattle.text.specs.declared.script.Source.TheVariants.{Table, Pool}
use Rattle.text.specs.Reads.{and_then, need, word_at}
use Rattle.text.specs.Lines.{Said, ask_at, rest_at, line_at}
use Rattle.grammar.specs.Languages.{Then, Word}
use Rattle.grammar.specs.Scripts.{step, holds}
use Rattle.grammar.proofs.Readings.{Lang, Strictly, Law, Fine, Full, Reads, Any}
use Rattle.grammar.proofs.Binds.{then, reads_map, reads_same, law_map, law_choose, law_test}
use Rattle.grammar.proofs.Words.{word_reads}
use Rattle.grammar.proofs.Heads.{first_letter, bracket_on, bracket_off}
use Rattle.grammar.proofs.Items.{Item, line, ask, extended, ItemSpelled, Unopened, Allowed, Legal, ask_reads, step_reads, holds_reads}

-- a line after its opening bracket, which leads from h to g
abbrev Rest : Source → Said → Lang Said
Rest m h b g w = (i : Item) × (g ≡ extended h i) × Unopened i w × Allowed m h i × Strictly b (Legal m h i)

cond_same : {A : Type 0} (t : Bool) {x y : A} → x ≡ y → cond t x y ≡ y
cond_same true e = e
cond_same false e = refl

module _ (h : Said) (at : List ℕ → ℕ) where
  law_ask : (m : Source) → Law (λ l. ask_at (at l) h l) (Rest m h)
  law_ask m = law_map (λ b g w (q, ge, sp, legal). (ask q, ge, sp, tt, legal)) (ask_reads h at).law

  law_rest : (m : Source) → Law (λ l. rest_at m (at l) h l) (Rest m h)
  law_rest (Table n p) =
      law_test (eqb (length h.asks) 0)
      (λ none. law_choose 115 (law_map (λ b g w (s, t, ge, sp, legal). (line (step s t), ge, sp, eqb-true (length h.asks) 0 none, legal)) (step_reads n p h at).law)
      (law_choose 104 (law_map (λ b g w (q, s, ge, sp, legal). (line (holds q s), ge, sp, eqb-true (length h.asks) 0 none, legal)) (holds_reads n p h at).law) (law_ask (Table n p))))
      (law_ask (Table n p))
  law_rest (Pool k g) = law_ask (Pool k g)

  full-rest : (m : Source) → Full (λ l. rest_at m (at l) h l) (Rest m h) Any
  full-rest (Table n p) b g w left (line (step s t), ge, sp, none, legal) any =
      subst (λ y. Fine b y g left) (sym (cond-true _ _ _ (eq-eqb (length h.asks) 0 none) ∙ cond-true _ _ _ (first_letter 115 115 _ w left sp)))
      ((step_reads n p h at).full b g w left (s, t, ge, sp, legal) any)
  full-rest (Table n p) b g w left (line (holds q s), ge, sp, none, legal) any =
      subst (λ y. Fine b y g left)
      (sym (cond-true _ _ _ (eq-eqb (length h.asks) 0 none) ∙ cond-false _ _ _ (first_letter 115 104 _ w left sp) ∙ cond-true _ _ _ (first_letter 104 104 _ w left sp)))
      ((holds_reads n p h at).full b g w left (q, s, ge, sp, legal) any)
  full-rest (Table n p) b g w left (ask q, ge, sp, _, legal) any =
      subst (λ y. Fine b y g left)
      (sym (cond_same (eqb (length h.asks) 0) (cond-false _ _ _ (first_letter 115 97 _ w left sp) ∙ cond-false _ _ _ (first_letter 104 97 _ w left sp))))
      ((ask_reads h at).full b g w left (q, ge, sp, legal) any)
  full-rest (Pool k c) b g w left (line l, ge, sp, none, legal) any = absurd none
  full-rest (Pool k c) b g w left (ask q, ge, sp, _, legal) any = (ask_reads h at).full b g w left (q, ge, sp, legal) any

  rest_reads : (m : Source) → Reads (λ l. rest_at m (at l) h l) (Rest m h) Any Any
  rest_reads m =
      record {
        law = law_rest m;
        full = full-rest m;
        start = λ b g w left s any. tt;
        some = let (g, w, (q, ge, sp, legal)) = (ask_reads h at).some in (g, w, (ask q, ge, sp, tt, legal));
      }

-- with the bracket

item_on : (i : Item) (w : List ℕ) → Then (Word (40 ∷ [])) (Unopened i) w → ItemSpelled i w
item_on (line (step s t)) = bracket_on (codes "step")
item_on (line (holds p s)) = bracket_on (codes "holds")
item_on (ask q) = bracket_on (codes "ask")

item_off : (i : Item) (w : List ℕ) → ItemSpelled i w → Then (Word (40 ∷ [])) (Unopened i) w
item_off (line (step s t)) = bracket_off (codes "step")
item_off (line (holds p s)) = bracket_off (codes "holds")
item_off (ask q) = bracket_off (codes "ask")

-- a line that leads from h to g
abbrev pub Next : Source → Said → Lang Said
Next m h b g w = (i : Item) × (g ≡ extended h i) × ItemSpelled i w × Allowed m h i × Strictly b (Legal m h i)

-- the place of the bracket is one before what follows it
placed : (m : Source) (h : Said) (l : List ℕ) → and_then (need (word_at (40 ∷ []) l)) (λ _ r. rest_at m (suc (length r)) h r) ≡ line_at m h l
placed m h [] = refl
placed m h (c ∷ l) = from (eqb c 40)
  where
    from : (t : Bool) → and_then (need {T = Unit {0}} (cond t (Some tt, l) (None, c ∷ l))) (λ _ r. rest_at m (suc (length r)) h r) ≡ and_then (need {T = Unit {0}} (cond t (Some tt, l) (None, c ∷ l))) (λ _. rest_at m (suc (length l)) h)
    from true = refl
    from false = refl

pub line_reads : (m : Source) (h : Said) → Reads (line_at m h) (Next m h) Any Any
line_reads m h =
    reads_same (placed m h)
    (reads_map
    (λ b g w (u, v, e, s, (i, ge, sp, allowed, legal)). (i, ge, item_on i w (u, v, e, s, sp), allowed, legal))
    (λ b g w (i, ge, sp, allowed, legal). let (u, v, e, s, rest) = item_off i w sp in (u, v, e, s, (i, ge, rest, allowed, legal)))
    (then (word_reads Any (40 ∷ []) (λ _. tt)) (rest_reads h (λ l. suc (length l)) m)))

-- every line begins with its bracket
pub item_first : (i : Item) (w : List ℕ) → ItemSpelled i w → (v : List ℕ) × (w ≡ 40 ∷ v)
item_first i w sp = let (u, v, e, s, rest) = item_off i w sp in (v, e ∙ ap (λ y. y ++ v) s)
