-- Formulas, and their truth values by recursion: operands take their own.
use Rattle.std.specs.Prelude.{ℕ}
use Rattle.model.specs.Meaning.{Meaning}
use Rattle.scale.specs.Grades.{Grades}
use Rattle.logic.specs.Walks.{Quantifier}
use Rattle.logic.specs.Walks.Operator.{next, finally, globally, until, weak}
use Rattle.logic.specs.Kinds.{Kind, Values}
use Rattle.logic.specs.Kinds.Kind.{path}

pub data Unary : Type 0 where
  neg : Unary
  X F G : Quantifier → Unary

pub data Binary : Type 0 where
  or and imp : Binary
  U W : Quantifier → Binary

pub data Formula : Type 0 where
  prop : ℕ → Formula
  unary : Unary → Formula → Formula
  binary : Binary → Formula → Formula → Formula

abbrev pub kind_of : Unary → Kind
kind_of neg = Kind.neg
kind_of (X q) = path q next
kind_of (F q) = path q finally
kind_of (G q) = path q globally

abbrev pub kind_of_binary : Binary → Kind
kind_of_binary or = Kind.or
kind_of_binary and = Kind.and
kind_of_binary imp = Kind.imp
kind_of_binary (U q) = path q until
kind_of_binary (W q) = path q weak

-- the degrees of an operand that a kind does not have
abbrev pub unused : ℕ → ℕ
unused s = 0

module _ (m : Meaning) (g : Grades) where
  -- d gives each state the truth value of the formula there
  abbrev pub Truth : Formula → (ℕ → ℕ) → Type 0
  Truth (prop p) d = Values m g (Kind.prop p) unused unused d
  Truth (unary k f) d = (a : ℕ → ℕ) × Truth f a × Values m g (kind_of k) a unused d
  Truth (binary k f h) d = (a : ℕ → ℕ) × (b : ℕ → ℕ) × Truth f a × Truth h b × Values m g (kind_of_binary k) a b d
