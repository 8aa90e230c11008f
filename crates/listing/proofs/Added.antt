-- The rows that a formula adds, and the asks and the rows of a script.
use Rattle.std.proofs.Common.{◌≡◌, ℕ, ◌+◌, ◌-◌, ◌≤◌, min, List, [], ◌∷◌, ◌++◌, length, drop, sym, refl, ap, ◌∙◌, arith}
use Rattle.std.specs.List.{between}
use Rattle.std.proofs.lemmas.List.{append_assoc, append-nil}
use Rattle.std.proofs.lemmas.Slice.{between_is}
use Rattle.std.proofs.Math.Seq.{take-append_seam, drop-append_seam}
use Rattle.logic.specs.Formulas.{Formula}
use Rattle.logic.specs.Formulas.Formula.{prop, unary, binary}
use Rattle.sheet.specs.declared.row.Row.{Row}
use Rattle.text.specs.declared.script.Ask.{Ask}
use Rattle.text.specs.Formulas.{row_for}
use Rattle.text.specs.Lines.{Said, with_ask}
use Rattle.grammar.specs.Scripts.{Question, size, entered, number_of, number_of_binary, asked}
use Rattle.grammar.proofs.Formulas.{entered-length}

-- what a formula adds to n rows
abbrev pub added : ℕ → Formula → List Row
added n (prop i) = row_for 1 (min i 255) 0 ∷ []
added n (unary k f) = added n f ++ (row_for (number_of k) (n + size f - 1) 0 ∷ [])
added n (binary k f h) = (added n f ++ added (n + size f) h) ++ (row_for (number_of_binary k) (n + size f - 1) (n + size f + size h - 1) ∷ [])

pub some_rows : (f : Formula) → 1 ≤ size f
some_rows (prop i) = omega arith
some_rows (unary k f) = omega arith
some_rows (binary k f h) = omega arith

entered_is : (rows : List Row) (f : Formula) → entered rows f ≡ rows ++ added (length rows) f
entered_is rows (prop i) = refl
entered_is rows (unary k f) =
    ap (λ (l : List Row). l ++ (row_for (number_of k) (length (entered rows f) - 1) 0 ∷ [])) (entered_is rows f)
    ∙ append_assoc rows (added (length rows) f) _
    ∙ ap (λ (n : ℕ). rows ++ (added (length rows) f ++ (row_for (number_of k) (n - 1) 0 ∷ []))) (entered-length rows f)
entered_is rows (binary k f h) =
    let left : length (entered rows f) ≡ length rows + size f = entered-length rows f in
    let both : length (entered (entered rows f) h) ≡ length rows + size f + size h = omega (arith, left, entered-length (entered rows f) h) in
    let begun : entered (entered rows f) h ≡ rows ++ (added (length rows) f ++ added (length rows + size f) h) =
    entered_is (entered rows f) h
    ∙ ap (λ (l : List Row). l ++ added (length (entered rows f)) h) (entered_is rows f)
    ∙ ap (λ (n : ℕ). rows ++ added (length rows) f ++ added n h) left
    ∙ append_assoc rows (added (length rows) f) (added (length rows + size f) h) in
    ap (λ (l : List Row). l ++ (row_for (number_of_binary k) (length (entered rows f) - 1) (length (entered (entered rows f) h) - 1) ∷ [])) begun
    ∙ append_assoc rows (added (length rows) f ++ added (length rows + size f) h) _
    ∙ ap (λ (a : ℕ). rows ++ ((added (length rows) f ++ added (length rows + size f) h) ++ (row_for (number_of_binary k) (a - 1) (length (entered (entered rows f) h) - 1) ∷ []))) left
    ∙ ap (λ (b : ℕ). rows ++ ((added (length rows) f ++ added (length rows + size f) h) ++ (row_for (number_of_binary k) (length rows + size f - 1) (b - 1) ∷ []))) both

-- the same rows, cut out of those that begin with the formula's
pub cut_out : (rows rest : List Row) (f : Formula) → between (length rows) (length (entered rows f)) (entered rows f ++ rest) ≡ added (length rows) f
cut_out rows rest f =
    between_is (entered rows f ++ rest) (length rows) (length (entered rows f))
    ∙ ap (drop (length rows)) (take-append_seam (entered rows f) rest)
    ∙ ap (drop (length rows)) (entered_is rows f)
    ∙ drop-append_seam rows (added (length rows) f)

-- the rows after all questions, and the asks
abbrev pub rows_of : List Row → List Question → List Row
rows_of rows [] = rows
rows_of rows (q ∷ qs) = rows_of (entered rows q.formula) qs

abbrev pub asks_of : List Row → List Question → List Ask
asks_of rows [] = []
asks_of rows (q ∷ qs) = record { state = q.state; row = length (entered rows q.formula) - 1 } ∷ asks_of (entered rows q.formula) qs

pub rows_begin : (rows : List Row) (qs : List Question) → (rest : List Row) × (rows_of rows qs ≡ rows ++ rest)
rows_begin rows [] = ([], sym (append-nil rows))
rows_begin rows (q ∷ qs) =
    let (rest, e) = rows_begin (entered rows q.formula) qs in
    (added (length rows) q.formula ++ rest, e ∙ ap (λ (l : List Row). l ++ rest) (entered_is rows q.formula) ∙ append_assoc rows (added (length rows) q.formula) rest)

pub rows_asked : (h : Said) (qs : List Question) → (asked h qs).rows ≡ rows_of h.rows qs
rows_asked h [] = refl
rows_asked h (q ∷ qs) = rows_asked (with_ask h q.state (entered h.rows q.formula)) qs

pub asks_asked : (h : Said) (qs : List Question) → (asked h qs).asks ≡ h.asks ++ asks_of h.rows qs
asks_asked h [] = sym (append-nil h.asks)
asks_asked h (q ∷ qs) =
    asks_asked (with_ask h q.state (entered h.rows q.formula)) qs
    ∙ append_assoc h.asks (record { state = q.state; row = length (entered h.rows q.formula) - 1 } ∷ []) (asks_of (entered h.rows q.formula) qs)
