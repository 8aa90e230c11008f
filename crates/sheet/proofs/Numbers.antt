-- The kinds by number are those of the logic.
use Rattle.std.proofs.Common.{◌≡◌, ℕ, ◌≤◌, Bool, false, eqb, Some, None, Option, sym, refl, ap, arith}
use Rattle.std.proofs.lemmas.Bool.{ne_eqb}
use Rattle.engine.specs.Satisfied.{asked, quantifier}
use Rattle.engine.specs.declared.operator.Operator.{Operator}
use Rattle.engine.specs.declared.operator.Operator.TheVariants.{Next, Finally, Globally, Until, Weak}
use Rattle.logic.specs.Kinds.Kind.{or, path}
use Rattle.logic.specs.Kinds.{Kind as OfLogic}
use Rattle.logic.specs.Walks.{Quantifier, Operator as Asked}
use Rattle.sheet.specs.Kinds.{kind_of, place_of, number_of, meant, path_of}
use Rattle.sheet.specs.declared.kinds.Kind.{Kind}
use Rattle.sheet.specs.declared.kinds.Kind.TheVariants.{Prop, Or, And, Not, Imp, E, A}

pub kind_of-number_of : (k : Kind) (a : ℕ) → kind_of (number_of k) a ≡ meant k a
kind_of-number_of Prop a = refl
kind_of-number_of Or a = refl
kind_of-number_of And a = refl
kind_of-number_of Not a = refl
kind_of-number_of Imp a = refl
kind_of-number_of (E Next) a = refl
kind_of-number_of (E Finally) a = refl
kind_of-number_of (E Globally) a = refl
kind_of-number_of (E Until) a = refl
kind_of-number_of (E Weak) a = refl
kind_of-number_of (A Next) a = refl
kind_of-number_of (A Finally) a = refl
kind_of-number_of (A Globally) a = refl
kind_of-number_of (A Until) a = refl
kind_of-number_of (A Weak) a = refl

place_low : (o : Operator) → place_of o ≤ 4
place_low Next = omega arith
place_low Finally = omega arith
place_low Globally = omega arith
place_low Until = omega arith
place_low Weak = omega arith

-- no kind has a number outside 1 to 15
pub number_low : (k : Kind) → (1 ≤ number_of k) × (number_of k ≤ 15)
number_low Prop = (omega arith, omega arith)
number_low Or = (omega arith, omega arith)
number_low And = (omega arith, omega arith)
number_low Not = (omega arith, omega arith)
number_low Imp = (omega arith, omega arith)
number_low (E o) = (omega arith, omega (arith, place_low o))
number_low (A o) = (omega arith, omega (arith, place_low o))

-- a kind that asks for walks has a first operand
pub not_prop : (k : Kind) (a : ℕ) (q : Quantifier) (o : Asked) → meant k a ≡ path q o → eqb (number_of k) 1 ≡ false
not_prop Prop a q o e = cc
not_prop Or a q o e = refl
not_prop And a q o e = refl
not_prop Not a q o e = refl
not_prop Imp a q o e = refl
not_prop (E p) a q o e = ne_eqb _ _ (λ z. omega arith)
not_prop (A p) a q o e = ne_eqb _ _ (λ z. omega arith)

-- what is asked of a walk
path_by : Option (Bool × Operator) → OfLogic
path_by (Some r) = path (quantifier r.0) (asked r.1)
path_by None = or

pub path_meant : (k : Kind) (a : ℕ) (some : Bool) (o : Operator) → Some (some, o) ≡ path_of k → meant k a ≡ path (quantifier some) (asked o)
unfolding path_by
path_meant Prop a some o e = cc
path_meant Or a some o e = cc
path_meant And a some o e = cc
path_meant Not a some o e = cc
path_meant Imp a some o e = cc
path_meant (E p) a some o e = sym (ap path_by e)
path_meant (A p) a some o e = sym (ap path_by e)
