-- The laws over whole histories, from what each call answers.
use Rattle.std.proofs.Common.{◌≡◌, ℕ, ◌*◌, ◌<◌, ◌≤◌, Bool, false, ◌||◌, ltb, leb, List, length, Ok, Result, sym, ap, ◌∙◌, subst, arith}
use Rattle.std.proofs.lemmas.Bool.{or_from, lt-leb, le-ltb}
use Rattle.logic.specs.Formulas.{Formula}
use Rattle.logic.specs.Satisfaction.{degree}
use Rattle.logic.proofs.Values.{degree_is_truth}
use Rattle.model.specs.Faults.{Refusal, refusal}
use Rattle.model.specs.Meaning.{Meaning}
use Rattle.scale.specs.Grades.{Grades}
use Rattle.sheet.specs.Calls.{refuse_if, and_then, byte_at, degree_answer}
use Rattle.sheet.specs.Histories.{formula_at, DegreeIsTrue}
use Rattle.sheet.specs.States.{State}
use Rattle.sheet.proofs.Bounded.{degree_low}
use Rattle.sheet.proofs.Kept.{Kept, kept}

-- a check that passes
pub skips : {X : Type 0} (b : Bool) (e : Refusal) (r : Result X Refusal) → b ≡ false → and_then (refuse_if b e) r ≡ r
skips b e r h = ap (λ (b : Bool). and_then (refuse_if b e) r) h

module _ (m : Meaning) (g : Grades) (s : State) (fs : List Formula) (K : Kept m g s fs) where
  pub fits : s.count * s.states ≤ length s.degrees
  fits = subst (λ (c : ℕ). c * s.states ≤ length s.degrees) (sym K.count) K.room

  pub byte_low : (r k : ℕ) → r < length fs → k < s.states → byte_at s r k ≤ s.levels
  byte_low r k h l = omega (arith, K.bytes r k h l, K.levels, degree_low m g (formula_at fs r) k)

pub degree_is_true : (s : State) (r k : ℕ) (answer : Result ℕ Refusal) → answer ≡ degree_answer s r k → DegreeIsTrue s r k answer
degree_is_true s r k answer e m law g orderly fs h here inside =
    let K = kept m law g orderly h in
    let state : k < s.states = omega (arith, K.states) in
    let row : r < s.count = omega (arith, K.count) in (
      degree m g (formula_at fs r),
      degree_is_truth m law K.total g orderly (formula_at fs r),
      e
          ∙ skips (leb s.count r || leb s.states k) (refusal 8 0) _ (or_from _ _ (lt-leb s.count r row) (lt-leb s.states k state))
          ∙ skips (ltb (length s.degrees) (s.count * s.states)) (refusal 4 0) _ (le-ltb _ _ (fits m g s fs K))
          ∙ skips (ltb s.levels (byte_at s r k)) (refusal 9 0) _ (le-ltb _ _ (byte_low m g s fs K r k here state))
          ∙ ap (λ (b : ℕ). Ok b) (K.bytes r k here state),
    )
