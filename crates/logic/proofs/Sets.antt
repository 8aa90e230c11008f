-- Inclusion, complements and duals.
use Rattle.std.proofs.Common.{◌≡◌, ℕ, Bool, true, false, sym, refl, ⊎_elim}
use mathlib.Core.Path.{fun_ext}
use mathlib.Core.Bool.{not-not}
use Rattle.std.proofs.lemmas.Bool.{cases_Bool, both_ways, not-true, not_from_false}
use Rattle.logic.specs.Sets.{Set, complement, Within}

abbrev pub Monotone : ℕ → (Set → Set) → Type 0
Monotone n f = (T U : Set) → Within n T U → Within n (f T) (f U)

pub within_itself : (n : ℕ) (T : Set) → Within n T T
within_itself n T s l e = e

pub complement_turns : (n : ℕ) (T U : Set) → Within n T U → Within n (complement U) (complement T)
complement_turns n T U h s l e =
    ⊎_elim (λ t. absurd (both_ways (U s) (not-true (U s) e) (h s l t))) (λ t. not_from_false (T s) t) (cases_Bool (T s))

pub complement_twice : (T : Set) → complement (complement T) ≡ T
complement_twice T = fun_ext (λ s. not-not (T s))

-- two tests that imply each other are equal
pub same_test : (a b : Bool) → (a ≡ true → b ≡ true) → (b ≡ true → a ≡ true) → a ≡ b
same_test true b f g = sym (f refl)
same_test false b f g = ⊎_elim (λ e. absurd (both_ways false refl (g e))) sym (cases_Bool b)
