-- One formula in terms of its operands.
use Rattle.std.proofs.Common.{◌≡◌, ℕ, zero, suc, ◌-◌, List, [], ◌∷◌, sym, refl, ap, arith, rules}
use Rattle.sheet.specs.declared.row.Row.{Row}
use Rattle.text.specs.Formulas.{formula_at, formula_by}

pub formula_is : (k : ℕ) (rows : List Row) (bs : List ℕ) → formula_at k rows bs ≡ formula_by (formula_at (k - 1)) k rows bs
unfolding formula_at
formula_is zero rows [] = refl
formula_is zero rows (b ∷ bs) = search rules
formula_is (suc k) rows bs =
    let e : suc k - 1 ≡ k = omega arith in ap (λ j. formula_by (formula_at j) (suc k) rows bs) (sym e)
