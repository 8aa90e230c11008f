-- Fixed points of sets that are known below a count.
use Rattle.std.proofs.Common.{◌≡◌, ℕ, suc, Bool, false, get_or, replicate, refl, ap, ◌∙◌}
use mathlib.Core.Path.{fun_ext}
use Rattle.model.specs.Meaning.{Meaning}
use Rattle.logic.proofs.Rules.{F_monotone}
use Rattle.logic.specs.FixedPoints.{F, lfp}
use Rattle.logic.specs.Sets.{Set, empty}
use Rattle.engine.specs.Marks.{members, ours, StateSet}
use Rattle.engine.proofs.Filled.{filled}
use Rattle.engine.proofs.Growing.{alike}
use Rattle.engine.proofs.Nesting.{Same}
use Rattle.engine.proofs.Turning.{rounds_alike}

-- F of two sets that have S1 and S2 below the count
abbrev pub Of : Meaning → Bool → Set → Set → Set → Set
Of m some S1 S2 T = F m (ours some) S1 S2 T

f_at : (m : Meaning) (some : Bool) (S1 S2 R1 R2 U : Set) (s : ℕ) → R1 s ≡ S1 s → R2 s ≡ S2 s → Of m some R1 R2 U s ≡ Of m some S1 S2 U s
unfolding F
f_at m some S1 S2 R1 R2 U s h k = rw (h, k) refl

pub of_alike : (m : Meaning) (some : Bool) (S1 S2 R1 R2 : Set) → Same m.states R1 S1 → Same m.states R2 S2 → Same m.states (lfp m.states (Of m some R1 R2)) (lfp m.states (Of m some S1 S2))
of_alike m some S1 S2 R1 R2 h k =
    rounds_alike m.states (Of m some R1 R2) (Of m some S1 S2)
    (λ T U e s q. alike m.states (Of m some R1 R2) (F_monotone m (ours some) R1 R2) T U e s q ∙ f_at m some S1 S2 R1 R2 U s (h s q) (k s q)) empty (suc m.states)

-- an array of marks that are all off is the empty set
pub no_members : (b : StateSet) → b.at ≡ replicate 4096 false → members b ≡ empty
no_members b e = fun_ext (λ s. ap (λ xs. get_or xs s false) e ∙ filled 4096 s false)
