-- Each question of a script is answered with the truth value that the endless walks give its formula.
use Rattle.std.proofs.Common.{◌≡◌, ℕ, ◌+◌, ◌-◌, ◌<◌, Bool, true, false, cond, ◌||◌, eqb, leb, List, [], ◌∷◌, ◌++◌, length, replicate, Ok, Err, Result, sym, refl, ap, ◌∙◌, subst, arith}
use Rattle.std.specs.List.{between}
use Rattle.std.proofs.lemmas.Bool.{or_parts, leb-false}
use Rattle.std.proofs.lemmas.List.{append_assoc, append-nil}
use Rattle.logic.specs.Formulas.{Formula, Truth}
use Rattle.model.specs.Faults.{Refusal, refusal}
use Rattle.model.specs.Lawfulness.{listed_lawful, pooled_lawful}
use Rattle.model.specs.Meaning.{Meaning, Lawful}
use Rattle.model.specs.declared.table.Step.{Step}
use Rattle.model.specs.declared.table.Holding.{Holding}
use Rattle.scale.specs.Grades.{Grades, Lawful as Orderly, boolean, five_valued}
use Rattle.scale.specs.Lawfulness.{boolean_lawful, five_lawful}
use Rattle.sheet.specs.Calls.{refuse_if, open_answer, degree_answer}
use Rattle.sheet.specs.Histories.{History, opened, formula_at}
use Rattle.sheet.specs.States.{State}
use Rattle.sheet.specs.declared.row.Row.{Row}
use Rattle.sheet.proofs.Accepted.{passed, checked}
use Rattle.sheet.proofs.Kept.{kept}
use Rattle.sheet.proofs.Laws.{degree_is_true}
use Rattle.text.specs.declared.script.Source.{Source}
use Rattle.text.specs.declared.script.Source.TheVariants.{Table, Pool}
use Rattle.text.specs.Formulas.{row_for}
use Rattle.text.specs.Lines.{Said}
use Rattle.grammar.proofs.Binds.{clash}
use Rattle.grammar.specs.Scripts.{Question, size, entered, asked}
use Rattle.grammar.proofs.Formulas.{entered-length}
use Rattle.listing.specs.declared.answers.Answer.{Answer}
use Rattle.listing.specs.Runs.{told_at, enter_all, ask_one, ask_from, asks_on, ask_all, meaning_of, grades_of}
use Rattle.listing.specs.Truths.{Answered}
use Rattle.listing.proofs.Added.{added, some_rows, cut_out, rows_of, asks_of, rows_begin, rows_asked, asks_asked}
use Rattle.listing.proofs.Truths.{then_ok, Grown, grown}

pub told_ok : {A : Type 0} (line : ℕ) (r : Result A Refusal) (x : A) → Ok x ≡ told_at line r → Ok x ≡ r
told_ok {A} line (Ok y) x h = let e : x ≡ y = cc in ap (λ (z : A). Ok z) e
told_ok line (Err e) x h = clash cc

module _ (m : Meaning) (law : Lawful m) (g : Grades) (orderly : Orderly g) where
  -- the degree of a formula whose rows were the last entered
  degree_true : (fs : List Formula) (f : Formula) (t : State) (r k d : ℕ) → Grown m g fs f t → r ≡ length fs + size f - 1 → Ok d ≡ degree_answer t r k →
      (k < m.states) × ((v : ℕ → ℕ) × Truth m g f v × (d ≡ v k))
  degree_true fs f t r k d G row a =
      let K = kept m law g orderly G.history in
      let below = checked (leb t.count r || leb t.states k) (refusal 8 0) tt (passed (refuse_if (leb t.count r || leb t.states k) (refusal 8 0)) _ d a).0 in
      let inside : k < m.states = omega (arith, K.states, leb-false t.states k (or_parts (leb t.count r) (leb t.states k) below).1) in
      let (v, truth, is) = degree_is_true t r k (Ok d) a m law g orderly G.after G.history (omega (arith, row, G.long, some_rows f)) inside in
      (inside, (v, subst (λ (f : Formula). Truth m g f v) (ap (formula_at G.after) row ∙ G.last) truth, let same : d ≡ v k = cc in same))

  -- the questions from one on, after the rows of those before it
  answers_true : (qs : List Question) (rows all : List Row) (s : State) (fs : List Formula) (line : ℕ) (done l : List Answer) →
      History m g s fs → length fs ≡ length rows → all ≡ rows_of rows qs → Ok l ≡ ask_from m g all s (length rows) line done (asks_of rows qs) →
      (given : List Answer) × Answered m g qs given × (l ≡ done ++ given)
  answers_true [] rows all s fs line done l h n e a = ([], tt, let same : l ≡ done = cc in same ∙ sym (append-nil done))
  answers_true (q ∷ qs) rows all s fs line done l h n e a =
      let f = q.formula in
      let more = entered rows f in
      let row = length more - 1 in
      let xs = between (length rows) (row + 1) all in
      let (p, b, c) = then_ok (told_at line (ask_one m g s xs (record { state = q.state; row = row }))) _ l a in
      let (t, u, v) = then_ok (enter_all m g s xs) _ p (told_ok line _ p b) in
      let (d, w, z) = then_ok (degree_answer t row q.state) _ p v in
      let answer : Answer = record { state = q.state; degree = d } in
      let is : p ≡ (t, answer) = cc in
      let end : row + 1 ≡ length more = omega (arith, entered-length rows f, some_rows f) in
      let (rest, begun) = rows_begin more qs in
      let part : xs ≡ added (length fs) f =
      ap (λ (k : ℕ). between (length rows) k all) end ∙ ap (between (length rows) (length more)) (e ∙ begun) ∙ cut_out rows rest f ∙ ap (λ (k : ℕ). added k f) (sym n) in
      let G = grown m law g orderly f s t fs h (u ∙ ap (enter_all m g s) part) in
      let (given, right, all') = answers_true qs more all t G.after (line + 1) (done ++ (answer ∷ [])) l G.history (omega (arith, G.long, n, entered-length rows f)) e
      (c ∙ ap (λ (p : State × Answer). ask_from m g all p.0 (row + 1) (line + 1) (done ++ (p.1 ∷ [])) (asks_of more qs)) is
      ∙ ap (λ (k : ℕ). ask_from m g all t k (line + 1) (done ++ (answer ∷ [])) (asks_of more qs)) end) in
      let true' = degree_true fs f t row q.state d G (omega (arith, n, entered-length rows f)) w in
      (answer ∷ given, (true'.0, refl, true'.1, right), all' ∙ append_assoc done (answer ∷ []) given)

  -- all questions, from the opening on
  pub run_true : (steps : List Step) (holdings : List Holding) (qs : List Question) (l : List Answer) →
      Ok l ≡ ask_all m g (asked (record { steps = steps; holdings = holdings; rows = []; asks = [] }) qs) → Answered m g qs l
  run_true steps holdings qs l a =
      let none : Said = record { steps = steps; holdings = holdings; rows = []; asks = [] } in
      let h = asked none qs in
      let rs = replicate 32 (row_for 0 0 0) in
      let bs = replicate 16384 0 in
      let (s, o, b) = then_ok (told_at 2 (open_answer m g rs bs)) (asks_on m g h) l a in
      let (given, right, all) = answers_true qs [] h.rows s [] (3 + length h.steps + length h.holdings) [] l (opened rs bs (told_ok 2 (open_answer m g rs bs) s o)) refl (rows_asked none qs)
      (b ∙ ap (ask_from m g h.rows s 0 (3 + length h.steps + length h.holdings) []) (asks_asked none qs)) in
      subst (Answered m g qs) (sym all) right

-- the models and the scales of a script are lawful
pub model_lawful : (source : Source) (h : Said) → Lawful (meaning_of source h)
model_lawful (Table n p) h = listed_lawful n p h.steps h.holdings
model_lawful (Pool k g) h = pooled_lawful k g

pub scale_lawful : (levels : ℕ) → Orderly (grades_of levels)
scale_lawful levels = go (eqb levels 1)
  where
    go : (b : Bool) → Orderly (cond b boolean five_valued)
    go true = boolean_lawful
    go false = five_lawful
