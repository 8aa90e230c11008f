-- What the loops leave where some states alone may be passed.
use Rattle.std.specs.Prelude.{◌≡◌, ℕ, suc, ◌<◌, Bool}
use Rattle.model.specs.Meaning.{Meaning}
use Rattle.logic.specs.FixedPoints.{lfp, gfp}
use Rattle.logic.specs.Searches.{H}
use Rattle.logic.specs.Sets.{Set}
use Rattle.engine.specs.Marks.{members, before, ours, Rounds, StateSet}
use Rattle.engine.specs.Rounded.{Joins}

module _ (m : Meaning) (some : Bool) (right pass left : StateSet) where
  -- H from three sets as the code has them
  abbrev pub step_h : Set → Set → Set
  step_h U V = H m (ours some) (members right) (members pass) (members left) U V

  -- the inner fixed point where left, or right seen, is to come again and again
  abbrev pub returned : Set → Set
  returned V = lfp m.states (λ U. step_h U V)

  -- the states from which it does, by the rounds of the last inner fixed point
  pub record Returning (x : Rounds) : Type 0 where
    pub set : (s : ℕ) → s < m.states → before x (suc m.states) s ≡ gfp m.states returned s
    pub rounds_of : Joins m.states (λ U. step_h U (gfp m.states returned)) x (suc m.states)

  -- the inner fixed point where left, or right seen, is to stay from some position on
  abbrev pub remained : Set → Set
  remained U = gfp m.states (λ V. step_h U V)
