-- A kind with the number 1 is a proposition.
use Rattle.std.proofs.Common.{◌≡◌, false, eqb, refl}
use Rattle.engine.specs.declared.operator.Operator.TheVariants.{Next, Finally, Globally, Until, Weak}
use Rattle.sheet.specs.Kinds.{number_of}
use Rattle.sheet.specs.declared.kinds.Kind.{Kind}
use Rattle.sheet.specs.declared.kinds.Kind.TheVariants.{Prop, Or, And, Not, Imp, E, A}

pub not_one : (k : Kind) → (k ≡ Prop → ⊥) → eqb (number_of k) 1 ≡ false
not_one Prop h = absurd (h refl)
not_one Or h = refl
not_one And h = refl
not_one Not h = refl
not_one Imp h = refl
not_one (E Next) h = refl
not_one (E Finally) h = refl
not_one (E Globally) h = refl
not_one (E Until) h = refl
not_one (E Weak) h = refl
not_one (A Next) h = refl
not_one (A Finally) h = refl
not_one (A Globally) h = refl
not_one (A Until) h = refl
not_one (A Weak) h = refl
