-- What a pair of two models means: one part steps while the other waits.
use Rattle.std.specs.Prelude.{ℕ, ◌+◌, ◌-◌, ◌*◌, ◌/◌, ◌%◌, Bool, cond, ◌&&◌, ◌||◌, ◌==◌, nat_lt}
use Rattle.model.specs.Meaning.{Meaning}
use Rattle.model.specs.Limits.{limited}

-- how many propositions a pair of n states has, of those of its parts: none where it has no state
abbrev pub labels : ℕ → ℕ → ℕ
labels n p = cond (n == 0) 0 p

module _ (a b : Meaning) where
  -- where the parts stand in state s of the pair, whose number is first × (how many states the second has) + second
  abbrev pub first_of : ℕ → ℕ
  first_of s = s / b.states

  abbrev pub second_of : ℕ → ℕ
  second_of s = s % b.states

  -- the first part steps while the second waits
  abbrev pub first_steps : ℕ → ℕ → Bool
  first_steps s t = second_of t == second_of s && a.step (first_of s) (first_of t)

  -- the second part steps while the first waits
  abbrev pub second_steps : ℕ → ℕ → Bool
  second_steps s t = first_of t == first_of s && b.step (second_of s) (second_of t)

  -- the first part's propositions come first
  abbrev pub part_holds : ℕ → ℕ → Bool
  part_holds p s = cond (nat_lt p a.props) (a.holds p (first_of s)) (b.holds (p - a.props) (second_of s))

  abbrev pub paired : Meaning
  paired = limited (a.states * b.states) (labels (a.states * b.states) (a.props + b.props)) (λ s t. first_steps s t || second_steps s t) part_holds
