-- What a line after the model's can be, and each kind of line.
use Rattle.std.proofs.Common.{◌≡◌, ℕ, ◌+◌, ◌<◌, ◌≤◌, Bool, leb, List, [], ◌∷◌, ◌++◌, length, Ok, codes, refl, ap, ◌∙◌, arith}
use Rattle.std.proofs.lemmas.Bool.{leb-false, lt-leb}
use Rattle.text.specs.declared.script.Source.{Source}
use Rattle.text.specs.declared.script.Source.TheVariants.{Table, Pool}
use Rattle.text.specs.Reads.{and_then, within}
use Rattle.text.specs.Lines.{Said, with_steps, with_holdings, with_ask, pair_at, step_at, holds_at, ask_at}
use Rattle.grammar.specs.Languages.{Language, Then, Word, Gap, Numeral}
use Rattle.grammar.specs.Scripts.{Line, step, holds, Question, size, depth, entered}
use Rattle.grammar.specs.Spelling.{End, FormulaSpelled, PairSpelled, LineSpelled, AskSpelled}
use Rattle.grammar.specs.Lawful.{LineInRange}
use Rattle.grammar.proofs.Readings.{Lang, Strictly, Both, Reads, Any, NoDigit}
use Rattle.grammar.proofs.Binds.{bind, then, value, reads_map}
use Rattle.grammar.proofs.Words.{gap_reads}
use Rattle.grammar.proofs.Numbers.{Numerals, numeral_reads}
use Rattle.grammar.proofs.Heads.{end_reads, Headed, head_reads, pair_reads, inside, is_inside}
use Rattle.grammar.proofs.Formulas.{Entered, Within, formula_reads}

-- a line of a table, or an ask
pub data Item : Type 0 where
  line : Line → Item
  ask : Question → Item

-- what has been said after it
abbrev pub extended : Said → Item → Said
extended h (line (step s t)) = with_steps h (h.steps ++ (record { from = s; to = t } ∷ []))
extended h (line (holds p s)) = with_holdings h (h.holdings ++ (record { prop = p; state = s } ∷ []))
extended h (ask q) = with_ask h q.state (entered h.rows q.formula)

abbrev pub ItemSpelled : Item → Language
ItemSpelled (line l) = LineSpelled l
ItemSpelled (ask q) = AskSpelled q

-- and without its opening bracket
abbrev pub Unopened : Item → Language
Unopened (line (step s t)) = PairSpelled (codes "step") s t
Unopened (line (holds p s)) = PairSpelled (codes "holds") p s
Unopened (ask q) = Then (Word (codes "ask")) (Then Gap (Then (Numeral q.state) (Then Gap (Then (FormulaSpelled q.formula) End))))

-- the lines of a table come before the first ask
abbrev pub Allowed : Source → Said → Item → Type 0
Allowed m h (ask q) = Unit {0}
Allowed (Table n p) h (line l) = length h.asks ≡ 0
Allowed (Pool k g) h (line l) = ⊥

abbrev pub AskLegal : Said → Question → Type 0
AskLegal h q = (length h.asks < 8) × (depth q.formula ≤ 16) × (length h.rows + size q.formula ≤ 32)

abbrev pub Legal : Source → Said → Item → Type 0
Legal m h (line (step s t)) = LineInRange m (step s t) × (length h.steps < 1024)
Legal m h (line (holds p s)) = LineInRange m (holds p s) × (length h.holdings < 1024)
Legal m h (ask q) = AskLegal h q

-- an ask

abbrev Asks : Said → Lang Said
Asks h b g w = (q : Question) × (g ≡ extended h (ask q)) × Unopened (ask q) w × Strictly b (AskLegal h q)

module _ (h : Said) where
  abbrev full : Bool
  full = leb 8 (length h.asks)

  abbrev Asked : Lang Said
  Asked = Both Numerals (λ s b g. Then Gap (Both (Entered (Within 16 h.rows) h.rows) (λ l b g w. (x : Unit {0}) × (g ≡ with_ask h s l) × End w) b g))

  pub ask_reads : (at : List ℕ → ℕ) → Reads (λ l. ask_at (at l) h l) (Asks h) Any Any
  ask_reads at =
      reads_map to back
      (head_reads (bind numeral_reads (λ s. then (gap_reads NoDigit (λ _. refl)) (bind (formula_reads 16 (omega arith) h.rows) (λ l. value (λ _. with_ask h s l) (end_reads Any (λ _. tt)))))) (codes "ask") full at)
    where
      to : (b : Bool) (g : Said) (w : List ℕ) → Headed (codes "ask") full Asked b g w → Asks h b g w
      to b g w ((u1, v1, e1, s1, (u2, v2, e2, s2, (s, (u3, v3, e3, s3, (u4, v4, e4, s4, (l, (u5, v5, e5, (f, le, s5, fits), (_, ge, end)))))))), room) = (
        record { state = s; formula = f },
        ge ∙ ap (with_ask h s) le,
        (u1, v1, e1, s1, (u2, v2, e2, s2, (u3, v3, e3, s3, (u4, v4, e4, s4, (u5, v5, e5, s5, end))))),
        λ strict. let few = leb-false 8 (length h.asks) (room strict) in let p = fits strict in omega arith,
      )

      back : (b : Bool) (g : Said) (w : List ℕ) → Asks h b g w → Headed (codes "ask") full Asked b g w
      back b g w (q, ge, (u1, v1, e1, s1, (u2, v2, e2, s2, (u3, v3, e3, s3, (u4, v4, e4, s4, (u5, v5, e5, s5, end))))), legal) = (
        (u1, v1, e1, s1, (u2, v2, e2, s2, (q.state, (u3, v3, e3, s3, (u4, v4, e4, s4, (entered h.rows q.formula, (u5, v5, e5, (q.formula, refl, s5, λ strict. let p = legal strict in omega arith), (tt, ge, end)))))))),
        λ strict. lt-leb 8 (length h.asks) (legal strict).0,
      )

-- a line of a table, which adds what it makes of its numbers to the list xs

module _ {T : Type 0} (word : List ℕ) (xs : List T) (make : ℕ → ℕ → T) (put : List T → Said) (n k : ℕ) where
  abbrev Added : Lang Said
  Added b g w = (s : ℕ) × (t : ℕ) × (g ≡ put (xs ++ (make s t ∷ []))) × PairSpelled word s t w × Strictly b (((s < n) × (t < k)) × (length xs < 1024))

  added_reads : (at : List ℕ → ℕ) → Reads (λ l. and_then (and_then (pair_at word (leb 1024 (length xs)) (at l) (within 0 n) (within 0 k) l) (λ p left. Ok (xs ++ (make p.0 p.1 ∷ []), left))) (λ ys left. Ok (put ys, left))) Added Any Any
  added_reads at =
      reads_map
      (λ b g w (ys, ge, (p, ye, (sp, lawful))). (p.0, p.1, ge ∙ ap put ye, sp, λ strict. let (few, s, t) = lawful strict in (((inside 0 n p.0 s).1, (inside 0 k p.1 t).1), leb-false 1024 (length xs) few)))
      (λ b g w (s, t, ge, sp, legal). (xs ++ (make s t ∷ []), ge, ((s, t), refl, (sp, λ strict. let ((sn, tk), few) = legal strict in (lt-leb 1024 (length xs) few, is_inside 0 n s (omega arith) sn, is_inside 0 k t (omega arith) tk)))))
      (value put (value (λ p. xs ++ (make p.0 p.1 ∷ [])) (pair_reads word (leb 1024 (length xs)) (within 0 n) (within 0 k) at)))

module _ (n p : ℕ) (h : Said) (at : List ℕ → ℕ) where
  abbrev Lined : (ℕ → ℕ → Line) → Lang Said
  Lined make b g w = (s : ℕ) × (t : ℕ) × (g ≡ extended h (line (make s t))) × Unopened (line (make s t)) w × Strictly b (Legal (Table n p) h (line (make s t)))

  pub step_reads : Reads (λ l. and_then (step_at n (at l) h.steps l) (λ s left. Ok (with_steps h s, left))) (Lined step) Any Any
  step_reads = added_reads (codes "step") h.steps (λ s t. record { from = s; to = t }) (with_steps h) n n at

  pub holds_reads : Reads (λ l. and_then (holds_at n p (at l) h.holdings l) (λ s left. Ok (with_holdings h s, left))) (Lined holds) Any Any
  holds_reads = added_reads (codes "holds") h.holdings (λ q s. record { prop = q; state = s }) (with_holdings h) p n at
