-- Sets that are the same below a count; H that may pass all states is G.
use Rattle.std.proofs.Common.{◌≡◌, ℕ, suc, ◌<◌, ◌≤◌, Bool, true, false, replicate, sym, refl, ◌∙◌}
use Rattle.model.specs.Meaning.{Meaning}
use Rattle.logic.proofs.Sets.{same_test}
use Rattle.logic.proofs.Steps.{pre-within}
use Rattle.logic.specs.FixedPoints.{pre, G, gfp}
use Rattle.logic.specs.Searches.{H}
use Rattle.logic.specs.Sets.{Set, empty, full}
use Rattle.engine.specs.Marks.{members, ours, Rounds, StateSet}
use Rattle.engine.specs.Passing.{step_h, returned, Returning, remained}
use Rattle.engine.specs.Rounded.{Joins, inner, Recurring, settled}
use Rattle.engine.proofs.Growing.{everywhere}
use Rattle.engine.proofs.Turning.{rounds_alike}

abbrev pub Same : ℕ → Set → Set → Type 0
Same n T U = (s : ℕ) → s < n → T s ≡ U s

pub pre_alike : (m : Meaning) (own T U : Set) → Same m.states T U → (s : ℕ) → pre m own T s ≡ pre m own U s
pre_alike m own T U h s =
    same_test (pre m own T s) (pre m own U s) (pre-within m own T U (λ t k e. sym (h t k) ∙ e) s) (pre-within m own U T (λ t k e. h t k ∙ e) s)

module _ (m : Meaning) (some : Bool) (right all left : StateSet) (few : m.states ≤ 4096) (whole : all.at ≡ replicate 4096 true) where
  h_full : (T U V W : Set) → Same m.states T U → Same m.states V W → Same m.states (step_h m some right all left T V) (G m (ours some) (members right) (members left) U W)
  unfolding G H
  h_full T U V W h k s q = rw (everywhere all.at true false m.states s few whole q, pre_alike m (ours some) T U h s, pre_alike m (ours some) V W k s) refl

  returned_full : Same m.states (gfp m.states (returned m some right all left)) (gfp m.states (inner m some right left))
  returned_full =
      rounds_alike m.states (returned m some right all left) (inner m some right left)
      (λ V W k. rounds_alike m.states (λ U. step_h m some right all left U V) (λ U. G m (ours some) (members right) (members left) U W)
      (λ T U h. h_full T U V W h k) empty (suc m.states)) full (suc m.states)

  pub recurring_full : (x : Rounds) → Returning m some right all left x → Recurring m some right left x
  recurring_full x r = record {
    set = λ s q. r.set s q ∙ returned_full s q;
    rounds_of = λ s q j le.
        r.rounds_of s q j le
        ∙ rounds_alike m.states (λ U. step_h m some right all left U (gfp m.states (returned m some right all left)))
        (λ U. G m (ours some) (members right) (members left) U (gfp m.states (inner m some right left)))
        (λ T U h. h_full T U _ _ h returned_full) empty j s q;
  }

  pub settling_full : (x : Rounds) (k : ℕ) → Joins m.states (remained m some right all left) x k → Joins m.states (settled m some right left) x k
  settling_full x k js s q j le =
      js s q j le
      ∙ rounds_alike m.states (remained m some right all left) (settled m some right left)
      (λ T U h. rounds_alike m.states (λ V. step_h m some right all left T V) (λ V. G m (ours some) (members right) (members left) U V)
      (λ V W e. h_full T U V W h e) full (suc m.states)) empty j s q
