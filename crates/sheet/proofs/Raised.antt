-- The highest level reached, level by level.
use Rattle.std.proofs.Common.{◌≡◌, ℕ, zero, suc, ◌-◌, ◌≤◌, Bool, false, cond, eqb, List, Some, sym, ap, ◌∙◌, subst, arith}
use mathlib.Core.Path.{fun_ext}
use Rattle.engine.specs.Marks.{StateSet, members, ours}
use Rattle.engine.specs.Satisfied.{quantifier}
use Rattle.logic.specs.Formulas.{unused}
use Rattle.logic.specs.Kinds.{reach}
use Rattle.logic.specs.Kinds.Kind.{path}
use Rattle.logic.specs.Satisfaction.{highest, sat_path}
use Rattle.logic.specs.Walks.{Operator}
use Rattle.model.specs.Meaning.{Meaning}
use Rattle.scale.specs.Grades.{Grades}
use Rattle.scale.specs.declared.reading.Reading.{Reading}
use Rattle.sheet.specs.Calls.{given, second_of, reaches}
use Rattle.sheet.specs.Kinds.{number_of, meant}
use Rattle.sheet.specs.Over.{state_of, row_of}
use Rattle.sheet.specs.declared.row.Row.{Row}
use Rattle.sheet.specs.declared.sheet.lent.Known.{Known}
use Rattle.sheet.proofs.Asked.{path-set}
use Rattle.sheet.proofs.Numbers.{kind_of-number_of, not_prop}

pub next_level : (l : ℕ) (passes : ℕ → Bool) (d old : ℕ) (b : Bool) → 1 ≤ l → b ≡ passes l → old ≡ highest (l - 1) passes → d ≡ cond b l old → d ≡ highest l passes
next_level zero passes d old b h e f k = absurd (omega arith)
next_level (suc n) passes d old b h e f k =
    let below : suc n - 1 ≡ n = omega arith in
    k ∙ ap (λ b. cond b (suc n) old) e ∙ ap (λ o. cond (passes (suc n)) (suc n) o) (f ∙ ap (λ j. highest j passes) below)

pub last_level : (n k : ℕ) (passes : ℕ → Bool) (d : ℕ) → n ≡ k → d ≡ highest n passes → d ≡ highest k passes
last_level n k passes d e h = subst (λ n. d ≡ highest n passes) e h

-- the degree of a row that asks for walks, raised by the set of a level from the highest level below that is reached
pub level_raised : (m : Meaning) (g : Grades) (x : Known) (rs : List Row) (l s : ℕ) (some : Bool) (o : Operator) (q : Reading) (left right set : StateSet) (d old : ℕ)
    → meant x.kind x.a ≡ path (quantifier some) o → Some q ≡ g.reading l
    → ((s : ℕ) → members left s ≡ reach (given (state_of x.lent rs) x.a) l s) → ((s : ℕ) → members right s ≡ reach (second_of (state_of x.lent rs) (row_of x)) l s)
    → members set s ≡ sat_path m (ours some) o (Some q) (members left) (members right) s
    → 1 ≤ l → old ≡ highest (l - 1) (λ k. reaches m g (state_of x.lent rs) (row_of x) k s) → d ≡ cond (members set s) l old
    → d ≡ highest l (λ k. reaches m g (state_of x.lent rs) (row_of x) k s)
level_raised m g x rs l s some o q left right set d old kind read el er is above e k =
    let first : eqb (number_of x.kind) 1 ≡ false = not_prop x.kind x.a _ _ kind in
    next_level l _ d old _ above
    (is ∙ ap (λ f. f s)
    (path-set _ _ _ l _ _ _ _ _ _ _ (kind_of-number_of x.kind x.a ∙ kind) read
    (fun_ext (λ s. el s ∙ ap (λ t. reach (cond t unused (given (state_of x.lent rs) x.a)) l s) (sym first))) (fun_ext er)))
    e k
