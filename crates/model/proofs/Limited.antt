-- Questions put to a meaning that is cut down to what exists.
use Rattle.std.proofs.Common.{◌≡◌, ℕ, ◌<◌, Bool, ◌&&◌, ltb, Option, sym, ◌∙◌, subst}
use Rattle.std.proofs.lemmas.Bool.{and_parts, and_from, lt-ltb}
use Rattle.model.specs.Meaning.{Meaning, Least}
use Rattle.model.proofs.Least.{least-same}

-- the least step from a state s that exists, among the states that do
pub limited-least : (m : Meaning) (goes : ℕ → Bool) (s t most : ℕ) (r : Option ℕ) → ((u : ℕ) → m.step s u ≡ (ltb s m.states && (ltb u m.states && goes u))) → most ≡ m.states → s < most → Least (λ u. ltb u most && goes u) t r → Least (m.step s) t r
limited-least m goes s t most r cut e lt l =
    least-same (λ u. ltb u m.states && goes u) (m.step s) t r
    (λ u _ q. cut u ∙ and_from (ltb s m.states) (ltb u m.states && goes u) (lt-ltb s m.states (subst (λ n. s < n) e lt)) q)
    (λ u _ q. (and_parts (ltb s m.states) (ltb u m.states && goes u) (sym (cut u) ∙ q)).1)
    (subst (λ n. Least (λ u. ltb u n && goes u) t r) e l)
