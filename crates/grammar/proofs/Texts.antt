-- All lines after the model's, to the end of the text.
use Rattle.std.proofs.Common.{◌≡◌, ℕ, zero, suc, ◌<◌, ◌≤◌, Bool, false, ◌⊎◌, List, [], ◌∷◌, ◌++◌, length, Some, Ok, sym, refl, ap, ◌∙◌, subst, inl, inr, ⊎_elim, append_assoc, arith}
use Rattle.text.specs.declared.script.Source.{Source}
use Rattle.text.specs.declared.script.Source.TheVariants.{Table, Pool}
use Rattle.text.specs.Reads.{Got, head_of, and_then}
use Rattle.text.specs.Lines.{Said, line_at, lines_at}
use Rattle.grammar.specs.Languages.{Then, Each}
use Rattle.grammar.specs.Scripts.{Line, Question, asked}
use Rattle.grammar.specs.Spelling.{LinesSpelled, AskSpelled}
use Rattle.grammar.proofs.Readings.{Lang, Strictly, Both, Out, read, stop, past, Law, Fine, Reads, Any, Nothing}
use Rattle.grammar.proofs.Binds.{clash, none_head, some_head, same_head, lenient, bind}
use Rattle.grammar.proofs.Items.{Item, line, ask, extended, ItemSpelled, Allowed, Legal}
use Rattle.grammar.proofs.Lines.{Next, line_reads, item_first}
use Rattle.grammar.proofs.Counts.{lined, lined-none, lined_more, line-asks, asks_more, Fits, fits-none, fits_line, line-fits, fits_ask, ask_fits}

-- the lines ls and then the asks qs, which lead from h to z; with an ask in h there are no more lines
abbrev Rests : Source → ℕ → Said → Lang Said
Rests m k h b z w =
    (ls : List Line) × (qs : List Question) × (z ≡ asked (lined h ls) qs) × Then (LinesSpelled m ls) (Each AskSpelled qs) w
    × ((length h.asks ≡ 0) ⊎ (ls ≡ [])) × Strictly b (Fits m k h ls qs)

no_lines : (m : Source) → LinesSpelled m [] []
no_lines (Table n p) = refl
no_lines (Pool k g) = (refl, refl)

no_bytes : (m : Source) (w : List ℕ) → LinesSpelled m [] w → w ≡ []
no_bytes (Table n p) w s = s
no_bytes (Pool k g) w s = s.1

no_rests : (m : Source) (k : ℕ) (h : Said) (b : Bool) → Rests m k h b h []
no_rests m k h b = ([], [], sym (lined-none h), ([], [], refl, no_lines m, refl), inr refl, λ _. fits-none m k h)

-- one line, and then the others

module _ (b : Bool) (z : Said) where
  -- a line comes first, or the first ask, behind which no line comes
  join_item : (m : Source) (k : ℕ) (h : Said) (i : Item) (u v : List ℕ) → ItemSpelled i u → Allowed m h i → Strictly b (Legal m h i) → Rests m k (extended h i) b z v → Rests m (suc k) h b z (u ++ v)
  join_item (Table n p) k h (line l) u v sp none legal (ls, qs, ze, (u2, v2, e, lsp, qsp), order, fits) =
      (l ∷ ls, qs, ze ∙ ap (λ y. asked y qs) (lined_more h l ls), (u ++ u2, v2, ap (λ y. u ++ y) e ∙ sym (append_assoc u u2 v2), (u, u2, refl, sp, lsp), qsp), inl none, λ s. fits_line l (legal s) (fits s))
  join_item (Pool c g) k h (line l) u v sp none legal more = absurd none
  join_item m k h (ask q) u v sp _ legal (ls, qs, ze, (u2, v2, e, lsp, qsp), order, fits) =
      let none : ls ≡ [] = ⊎_elim (λ e. absurd (omega (arith, asks_more h q))) (λ e. e) order in
      let (ze', lsp', fits') = subst (λ y. (z ≡ asked (lined (extended h (ask q)) y) qs) × LinesSpelled m y u2 × Strictly b (Fits m k (extended h (ask q)) y qs)) none (ze, lsp, fits) in
      ([], q ∷ qs, ze', ([], u ++ v, refl, no_lines m, (u, v2, ap (λ y. u ++ y) (e ∙ ap (λ y. y ++ v2) (no_bytes m u2 lsp')), sp, qsp)), inr refl, λ s. fits_ask q (legal s) (fits' s))

  join : (m : Source) (k : ℕ) (h : Said) (w : List ℕ) → Both (Next m h) (Rests m k) b z w → Rests m (suc k) h b z w
  join m k h w (g, (u, v, e, (i, ge, sp, allowed, legal), more)) =
      subst (Rests m (suc k) h b z) (sym e) (join_item m k h i u v sp allowed legal (subst (λ y. Rests m k y b z v) ge more))

  -- nothing is left; or one line, which k counts, and then the others
  part : (m : Source) (k j : ℕ) (h : Said) (w : List ℕ) → k ≤ suc j → Rests m k h b z w → ((w ≡ []) × (z ≡ h)) ⊎ (Strictly b (0 < k) × Both (Next m h) (Rests m j) b z w)
  part m k j h w most ([], [], ze, (u, v, e, lsp, qsp), order, fits) = inl (e ∙ (λ i. no_bytes m u lsp i ++ qsp i), ze ∙ lined-none h)
  part m k j h w most ([], q ∷ qs, ze, (u, v, e, lsp, (u1, v1, e1, sp, qsp)), order, fits) =
      let next : Next m h b (extended h (ask q)) u1 = (ask q, refl, sp, tt, λ s. (ask_fits q j most (fits s)).0) in
      let others : Rests m j (extended h (ask q)) b z v1 = ([], qs, ze, ([], v1, refl, no_lines m, qsp), inr refl, λ s. (ask_fits q j most (fits s)).1) in
      inr (λ s. let f = fits s in omega arith, (extended h (ask q), (u1, v1, e ∙ (λ i. no_bytes m u lsp i ++ e1 i), next, others)))
  part (Table n p) k j h w most (l ∷ ls, qs, ze, (u, v, e, (u1, v1, e1, sp, lsp), qsp), order, fits) =
      let none : length h.asks ≡ 0 = ⊎_elim (λ e. e) (λ e. clash cc) order in
      let next : Next (Table n p) h b (extended h (line l)) u1 = (line l, refl, sp, none, λ s. (line-fits j l most (fits s)).0) in
      let said : z ≡ asked (lined (extended h (line l)) ls) qs = ze ∙ ap (λ y. asked y qs) (sym (lined_more h l ls)) in
      let others : Rests (Table n p) j (extended h (line l)) b z (v1 ++ v) = (ls, qs, said, (v1, v, refl, lsp, qsp), inl (ap length (line-asks h l) ∙ none), λ s. (line-fits j l most (fits s)).1) in
      inr (λ s. let f = fits s in omega arith, (extended h (line l), (u1, v1 ++ v, e ∙ ap (λ y. y ++ v) e1 ∙ append_assoc u1 v1 v, next, others)))
  part (Pool c g) k j h w most (l ∷ ls, qs, ze, (u, v, e, lsp, qsp), order, fits) = let d = lsp.0 in clash cc

-- the reader of lines

at_end : (m : Source) (k : ℕ) (h : Said) (b : Bool) (z : Said) (w left : List ℕ) → (w ≡ []) × (z ≡ h) → left ≡ [] → Fine b (lines_at m k h (w ++ left)) z left
at_end m k h b z w left (we, ze) le = subst (λ l. Fine b (lines_at m k h (w ++ l)) z l) (sym le) (subst (λ l. Fine b (lines_at m k h (l ++ [])) z []) (sym we) (let back = sym ze in λ i. (back i, [])))

law_end : (m : Source) (k : ℕ) (h : Said) → Out (lines_at m k h) (Rests m k h) []
law_end m k h = read [] [] h refl (no_rests m k h) (λ q e. subst (λ l. lines_at m k h l ≡ Ok (h, l)) (sym (none_head q e)) refl)

-- what begins with a line begins with its bracket
both_first : (m : Source) (k : ℕ) (h : Said) (b : Bool) (z : Said) (w left : List ℕ) → Both (Next m h) (Rests m k) b z w → Some 40 ≡ head_of (w ++ left)
both_first m k h b z w left (g, (u, v, e, (i, ge, sp, allowed, legal), more)) =
    let (t, ue) = item_first i u sp in sym (ap (λ l. head_of (l ++ left)) (e ∙ ap (λ l. l ++ v) ue))

none_left : (m : Source) (h : Said) → Reads (lines_at m 0 h) (Rests m 0 h) Any Nothing
none_left m h =
    record {
      law = law;
      full = λ b z w left s none. ⊎_elim
          (λ e. at_end m 0 h b z w left e none)
          (λ (some, both). let (t, e) = some_head 40 (w ++ left) (both_first m 0 h b z w left both) in
          subst (λ l. Fine b (lines_at m 0 h l) z left) (sym e) (lenient b false (λ strict. let p = some strict in absurd (omega arith)) refl))
          (part b z m 0 0 h w (omega arith) s);
      start = λ b z w left s none. tt;
      some = (h, [], no_rests m 0 h false);
    }
  where
    law : Law (lines_at m 0 h) (Rests m 0 h)
    law [] = law_end m 0 h
    law (c ∷ bs) = past tt

module _ (m : Source) (k : ℕ) (h : Said) where
  abbrev turn : List ℕ → Got Said
  turn l = and_then (line_at m h l) (lines_at m k)

  turned : (c : ℕ) (l : List ℕ) → Some c ≡ head_of l → lines_at m (suc k) h l ≡ turn l
  turned c l e = let t = some_head c l e in subst (λ y. lines_at m (suc k) h y ≡ turn y) (sym t.1) refl

  one_more : Reads turn (Both (Next m h) (Rests m k)) Any Nothing → Reads (lines_at m (suc k) h) (Rests m (suc k) h) Any Nothing
  one_more reads =
      record {
        law = law;
        full = λ b z w left s none. ⊎_elim
            (λ e. at_end m (suc k) h b z w left e none)
            (λ (some, both). subst (λ y. Fine b y z left) (sym (turned 40 (w ++ left) (both_first m k h b z w left both))) (reads.full b z w left both none))
            (part b z m (suc k) k h w (omega arith) s);
        start = λ b z w left s none. tt;
        some = (h, [], no_rests m (suc k) h false);
      }
    where
      from : (c : ℕ) (bs : List ℕ) → Out turn (Both (Next m h) (Rests m k)) (c ∷ bs) → Out (lines_at m (suc k) h) (Rests m (suc k) h) (c ∷ bs)
      from c bs (read w r z e s f) = read w r z e (λ b. join b z m k h w (s b)) (λ q a. turned c (w ++ q) (ap head_of e ∙ same_head w r q a) ∙ f q a)
      from c bs (stop w r e (z, u, s) f) = stop w r e (z, u, join false z m k h (w ++ u) s) (λ q a. turned c (w ++ q) (ap head_of e ∙ same_head w r q a) ∙ f q a)
      from c bs (past o) = past o

      law : Law (lines_at m (suc k) h) (Rests m (suc k) h)
      law [] = law_end m (suc k) h
      law (c ∷ bs) = from c bs (reads.law (c ∷ bs))

pub lines_reads : (m : Source) (k : ℕ) (h : Said) → Reads (lines_at m k h) (Rests m k h) Any Nothing
lines_reads m zero h = none_left m h
lines_reads m (suc k) h = one_more m k h (bind (line_reads m h) (lines_reads m k))
