-- What a formula gives: its rows, each after those of its operands, the left before the right.
use Rattle.std.specs.Prelude.{ℕ, zero, suc, ◌+◌, ◌-◌, min, cond, ◌&&◌, List, [], ◌∷◌, ◌++◌, length, Ok, Err, ◌==◌, nat_lt}
use Rattle.sheet.specs.Kinds.{operands_of, name_of}
use Rattle.sheet.specs.declared.row.Row.{Row}
use Rattle.text.specs.declared.fault.ReadFault.TheVariants.{Form, Many}
use Rattle.text.specs.Reads.{Got, and_then, need, choose, word_at, gap_at, numeral_at}

-- the name of this kind
abbrev pub named : ℕ → List ℕ → Got ℕ
named k bs = and_then (need (word_at (name_of k) bs)) (λ _ left. Ok (k, left))

-- the second letter of a two-letter name, X, F, G, U or W; first is the kind with X
abbrev pub operator_at : ℕ → List ℕ → Got ℕ
operator_at first [] = Err (Form 0)
operator_at first (b ∷ bs) =
    cond (b == 88) (Ok (first, bs)) (cond (b == 70) (Ok (first + 1, bs)) (cond (b == 71) (Ok (first + 2, bs))
    (cond (b == 85) (Ok (first + 3, bs)) (cond (b == 87) (Ok (first + 4, bs)) (Err (Form (suc (length bs))))))))

-- a quantifier and an operator
abbrev pub capital : ℕ → ℕ → List ℕ → Got ℕ
capital letter first bs = and_then (need (word_at (letter ∷ []) bs)) (λ _. operator_at first)

-- the name of a kind, by its first letter: E, A, or, and, not, imp, p
abbrev pub name_at : List ℕ → Got ℕ
name_at = choose 69 (capital 69 6) (choose 65 (capital 65 11) (choose 111 (named 2) (choose 97 (named 3) (choose 110 (named 4) (choose 105 (named 5) (named 1))))))

-- an opening bracket, where k more may be open at once, and the rows and the open brackets leave room for one of 32
abbrev pub open_at : ℕ → List Row → List ℕ → Got (Unit {0})
open_at k rows [] = Err (Form 0)
open_at k rows (b ∷ bs) =
    cond (b == 40) (cond (nat_lt 0 k && nat_lt (length rows + (16 - k)) 32) (Ok (tt, bs)) (Err (Many (suc (length bs))))) (Err (Form (suc (length bs))))

abbrev pub row_for : ℕ → ℕ → ℕ → Row
row_for k x y = record { kind = k; a = x; b = y }

-- the closing bracket, which adds the row
abbrev pub close_at : List Row → Row → List ℕ → Got (List Row)
close_at rows row bs = and_then (need (word_at (41 ∷ []) bs)) (λ _ left. Ok (rows ++ (row ∷ []), left))

-- a proposition's number; a record keeps it in a byte, and 255 is above every proposition
abbrev pub prop_at : List Row → List ℕ → Got (List Row)
prop_at rows bs = and_then (need (numeral_at bs)) (λ i. close_at rows (row_for 1 (min i 255) 0))

module _ (inner : List Row → List ℕ → Got (List Row)) where
  abbrev pub one_at : ℕ → List Row → List ℕ → Got (List Row)
  one_at kind rows bs = and_then (inner rows bs) (λ l. close_at l (row_for kind (length l - 1) 0))

  abbrev pub two_at : ℕ → List Row → List ℕ → Got (List Row)
  two_at kind rows bs =
      and_then (inner rows bs) (λ l b1.
      and_then (need (gap_at b1)) (λ _ b2.
      and_then (inner l b2) (λ r. close_at r (row_for kind (length l - 1) (length r - 1)))))

  -- what stands after the name and a gap
  abbrev pub operands_at : ℕ → List Row → List ℕ → Got (List Row)
  operands_at kind rows bs = cond (kind == 1) (prop_at rows bs) (cond (operands_of kind == 2) (two_at kind rows bs) (one_at kind rows bs))

  -- one formula, by what its operands give
  abbrev pub formula_by : ℕ → List Row → List ℕ → Got (List Row)
  formula_by k rows bs =
      and_then (open_at k rows bs) (λ _ b1.
      and_then (name_at b1) (λ kind b2.
      and_then (need (gap_at b2)) (λ _ b3. operands_at kind rows b3)))

-- the rows after those of one formula, in which k brackets may be open at once
unfoldable pub formula_at : ℕ → List Row → List ℕ → Got (List Row)
formula_at zero rows bs = formula_by (λ _ _. Err (Many 0)) 0 rows bs
formula_at (suc k) rows bs = formula_by (formula_at k) (suc k) rows bs
