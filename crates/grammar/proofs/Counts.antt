-- What the lines that are left may count, after what has been said so far.
use Rattle.std.proofs.Common.{◌≡◌, ℕ, suc, ◌+◌, ◌<◌, ◌≤◌, max, List, [], ◌∷◌, ◌++◌, length, refl, append_assoc, append-nil, arith, length-append}
use Rattle.logic.specs.Formulas.{Formula}
use Rattle.logic.specs.Formulas.Formula.{prop, unary, binary}
use Rattle.text.specs.declared.script.Source.{Source}
use Rattle.text.specs.Lines.{Said}
use Rattle.grammar.specs.Scripts.{Line, step, holds, Question, size, depth, steps_of, holdings_of}
use Rattle.grammar.specs.Lawful.{AllOf, LineInRange, total}
use Rattle.grammar.proofs.Formulas.{entered-length}
use Rattle.grammar.proofs.Items.{line, ask, extended, AskLegal, Legal}

-- what has been said after the lines of a table
abbrev pub lined : Said → List Line → Said
lined h ls = record { steps = h.steps ++ steps_of ls; holdings = h.holdings ++ holdings_of ls; rows = h.rows; asks = h.asks }

pub lined-none : (h : Said) → lined h [] ≡ h
lined-none h i = record { steps = append-nil h.steps i; holdings = append-nil h.holdings i; rows = h.rows; asks = h.asks }

pub lined_more : (h : Said) (l : Line) (ls : List Line) → lined (extended h (line l)) ls ≡ lined h (l ∷ ls)
lined_more h (step s t) ls i = record { steps = append_assoc h.steps (record { from = s; to = t } ∷ []) (steps_of ls) i; holdings = h.holdings ++ holdings_of ls; rows = h.rows; asks = h.asks }
lined_more h (holds p s) ls i = record { steps = h.steps ++ steps_of ls; holdings = append_assoc h.holdings (record { prop = p; state = s } ∷ []) (holdings_of ls) i; rows = h.rows; asks = h.asks }

-- how much a line or an ask adds

pub line-asks : (h : Said) (l : Line) → (extended h (line l)).asks ≡ h.asks
line-asks h (step s t) = refl
line-asks h (holds p s) = refl

pub asks_more : (h : Said) (q : Question) → length (extended h (ask q)).asks ≡ length h.asks + 1
asks_more h q = length-append h.asks _

pub lines-count : (ls : List Line) → length ls ≡ length (steps_of ls) + length (holdings_of ls)
lines-count [] = refl
lines-count (step s t ∷ ls) = omega (arith, lines-count ls)
lines-count (holds p s ∷ ls) = omega (arith, lines-count ls)

size_positive : (f : Formula) → 0 < size f
size_positive (prop i) = omega arith
size_positive (unary k f) = omega arith
size_positive (binary k f h) = omega arith

-- after h there come the lines ls and the asks qs, k at most, and each list that they add to stays within its limit
pub record Fits (m : Source) (k : ℕ) (h : Said) (ls : List Line) (qs : List Question) : Type 0 where
  pub lines : AllOf (LineInRange m) ls
  pub steps : length h.steps + length (steps_of ls) ≤ max 1024 (length h.steps)
  pub holdings : length h.holdings + length (holdings_of ls) ≤ max 1024 (length h.holdings)
  pub asks : length h.asks + length qs ≤ max 8 (length h.asks)
  pub rows : length h.rows + total qs ≤ max 32 (length h.rows)
  pub nesting : AllOf (λ q. depth q.formula ≤ 16) qs
  pub count : length ls + length qs ≤ k

pub fits-none : (m : Source) (k : ℕ) (h : Said) → Fits m k h [] []
fits-none m k h = record { lines = tt; steps = omega arith; holdings = omega arith; asks = omega arith; rows = omega arith; nesting = tt; count = omega arith }

-- the first of them, and the others behind it

module _ {m : Source} {h : Said} {qs : List Question} where
  pub fits_line : {k : ℕ} {ls : List Line} (l : Line) → Legal m h (line l) → Fits m k (extended h (line l)) ls qs → Fits m (suc k) h (l ∷ ls) qs
  fits_line (step s t) legal f =
      record {
        lines = (legal.0, f.lines);
        steps = omega (arith, length-append h.steps (record { from = s; to = t } ∷ []));
        holdings = f.holdings;
        asks = f.asks;
        rows = f.rows;
        nesting = f.nesting;
        count = omega arith;
      }
  fits_line (holds p s) legal f =
      record {
        lines = (legal.0, f.lines);
        steps = f.steps;
        holdings = omega (arith, length-append h.holdings (record { prop = p; state = s } ∷ []));
        asks = f.asks;
        rows = f.rows;
        nesting = f.nesting;
        count = omega arith;
      }

  pub line-fits : {k : ℕ} {ls : List Line} (j : ℕ) (l : Line) → k ≤ suc j → Fits m k h (l ∷ ls) qs → Legal m h (line l) × Fits m j (extended h (line l)) ls qs
  line-fits j (step s t) most f = (
    (f.lines.0, omega arith),
    record {
      lines = f.lines.1;
      steps = omega (arith, length-append h.steps (record { from = s; to = t } ∷ []));
      holdings = f.holdings;
      asks = f.asks;
      rows = f.rows;
      nesting = f.nesting;
      count = omega arith;
    },
  )
  line-fits j (holds p s) most f = (
    (f.lines.0, omega arith),
    record {
      lines = f.lines.1;
      steps = f.steps;
      holdings = omega (arith, length-append h.holdings (record { prop = p; state = s } ∷ []));
      asks = f.asks;
      rows = f.rows;
      nesting = f.nesting;
      count = omega arith;
    },
  )

  module _ (q : Question) where
    pub fits_ask : {k : ℕ} → AskLegal h q → Fits m k (extended h (ask q)) [] qs → Fits m (suc k) h [] (q ∷ qs)
    fits_ask legal f =
        record {
          lines = tt;
          steps = f.steps;
          holdings = f.holdings;
          asks = omega (arith, asks_more h q);
          rows = omega (arith, entered-length h.rows q.formula);
          nesting = (legal.1, f.nesting);
          count = omega arith;
        }

    pub ask_fits : {k : ℕ} (j : ℕ) → k ≤ suc j → Fits m k h [] (q ∷ qs) → AskLegal h q × Fits m j (extended h (ask q)) [] qs
    ask_fits j most f = (
      (omega arith, f.nesting.0, omega (arith, size_positive q.formula)),
      record {
        lines = tt;
        steps = f.steps;
        holdings = f.holdings;
        asks = omega (arith, asks_more h q);
        rows = omega (arith, entered-length h.rows q.formula, size_positive q.formula);
        nesting = f.nesting.1;
        count = omega arith;
      },
    )
