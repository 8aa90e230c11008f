-- The fifteen kinds by number.
use Rattle.std.specs.Prelude.{◌≡◌, ℕ, ◌+◌, ◌-◌, ◌<◌, ◌⊎◌, Bool, true, false, cond, List, [], ◌∷◌, codes, Some, None, Option, Result, MatchResult, ◌==◌, nat_lt, slice_index, slice_index_or}
use Rattle.engine.specs.Satisfied.{asked}
use Rattle.engine.specs.declared.operator.Operator.{Operator as Asking}
use Rattle.engine.specs.declared.operator.Operator.TheVariants.{Next, Finally, Globally, Until, Weak}
use Rattle.logic.specs.Kinds.{Kind}
use Rattle.logic.specs.Kinds.Kind.{prop, or, and, neg, imp, path}
use Rattle.logic.specs.Walks.{Operator}
use Rattle.logic.specs.Walks.Operator.{next, finally, globally, until, weak}
use Rattle.logic.specs.Walks.Quantifier.{some_walk, every_walk}
use Rattle.sheet.specs.declared.kinds.Kind.{Kind as RowKind}
use Rattle.sheet.specs.declared.kinds.Kind.TheVariants.{Prop, Or, And, Not, Imp, E, A}
use Rattle.sheet.specs.declared.kinds.KindInfo.{KindInfo}
use Rattle.sheet.specs.declared.kinds.UnknownKind.{UnknownKind}
use Rattle.sheet.specs.declared.row.Row.{Row}

-- X, F, G, U, W in this order
abbrev pub operator_of : ℕ → Operator
operator_of i = cond (i == 0) next (cond (i == 1) finally (cond (i == 2) globally (cond (i == 3) until weak)))

-- 1 p (a is the proposition), 2 or, 3 and, 4 not, 5 imp, 6 to 10 under E, 11 to 15 under A
abbrev pub kind_of : ℕ → ℕ → Kind
kind_of k a =
    cond (k == 1) (prop a) (cond (k == 2) or (cond (k == 3) and (cond (k == 4) neg (cond (k == 5) imp
    (cond (nat_lt k 11) (path some_walk (operator_of (k - 6))) (path every_walk (operator_of (k - 11))))))))

-- how many operands a kind has, by number from 1
abbrev pub counts : List ℕ
counts = 1 ∷ 2 ∷ 2 ∷ 1 ∷ 2 ∷ 1 ∷ 1 ∷ 1 ∷ 2 ∷ 2 ∷ 1 ∷ 1 ∷ 1 ∷ 2 ∷ 2 ∷ []

abbrev pub operands_of : ℕ → ℕ
operands_of k = slice_index counts (k - 1)

-- what a kind is called, by number from 1
abbrev pub names : List (List ℕ)
names =
    codes "p" ∷ codes "or" ∷ codes "and" ∷ codes "not" ∷ codes "imp"
    ∷ codes "EX" ∷ codes "EF" ∷ codes "EG" ∷ codes "EU" ∷ codes "EW"
    ∷ codes "AX" ∷ codes "AF" ∷ codes "AG" ∷ codes "AU" ∷ codes "AW" ∷ []

abbrev pub name_of : ℕ → List ℕ
name_of k = slice_index_or names (k - 1) []

-- the place of an operator among the five
abbrev pub place_of : Asking → ℕ
place_of Next = 0
place_of Finally = 1
place_of Globally = 2
place_of Until = 3
place_of Weak = 4

-- the number that stands for a kind
abbrev pub number_of : RowKind → ℕ
number_of Prop = 1
number_of Or = 2
number_of And = 3
number_of Not = 4
number_of Imp = 5
number_of (E o) = 6 + place_of o
number_of (A o) = 11 + place_of o

-- the kind of the logic that it is; the proposition is a
abbrev pub meant : RowKind → ℕ → Kind
meant Prop a = prop a
meant Or a = or
meant And a = and
meant Not a = neg
meant Imp a = imp
meant (E o) a = path some_walk (asked o)
meant (A o) a = path every_walk (asked o)

-- for a kind that asks for walks, whether some walk serves, and what is asked of it
abbrev pub path_of : RowKind → Option (Bool × Asking)
path_of Prop = None
path_of Or = None
path_of And = None
path_of Not = None
path_of Imp = None
path_of (E o) = Some (true, o)
path_of (A o) = Some (false, o)

-- the result is the kind with this number, or an error with a number that no kind has
abbrev pub Numbered : ℕ → Result RowKind UnknownKind → Type 0
Numbered n r = MatchResult r (λ kind. number_of kind ≡ n) (λ e. (e.0 ≡ n) × ((n < 1) ⊎ (15 < n)))

-- what the table has of a kind
pub record Tells (k : RowKind) (x : KindInfo) : Type 0 where
  pub kind : x.kind ≡ k
  pub number : x.number ≡ number_of k
  pub name : x.name.now ≡ name_of (number_of k)
  pub operands : x.operands ≡ operands_of (number_of k)

-- the row of this kind over these operands
abbrev pub row_with : RowKind → ℕ → ℕ → Row
row_with k x y = record { kind = number_of k; a = x; b = y }
