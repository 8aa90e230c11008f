-- The least number that passes, of two tests joined and of two tests that agree.
use Rattle.std.proofs.Common.{◌≡◌, ℕ, ◌<◌, ◌≤◌, min, Bool, true, false, leb, ◌⊎◌, Some, None, Option, sym, refl, ap, subst, ⊎_elim, arith}
use Rattle.std.specs.Bool.{then_some}
use Rattle.std.proofs.lemmas.Bool.{cases_lt, cases_order}
use Rattle.std.proofs.lemmas.Bool.Decides.{nat_tests}
use Rattle.model.specs.Lesser.{lesser_of}
use Rattle.model.specs.Meaning.{Least}

-- two tests that agree from t on have the same least
pub least-same : (P Q : ℕ → Bool) (t : ℕ) (r : Option ℕ) → ((u : ℕ) → t ≤ u → P u ≡ true → Q u ≡ true) → ((u : ℕ) → t ≤ u → Q u ≡ true → P u ≡ true) → Least P t r → Least Q t r
least-same P Q t None on back l = λ u h q. l u h (back u h q)
least-same P Q t (Some w) on back l = (l.0, on w l.0 l.1, λ v h lt q. l.2 v h lt (back v h q))

passes_min : (R : ℕ → Bool) (w v : ℕ) → R w ≡ true → R v ≡ true → R (min w v) ≡ true
passes_min R w v a b =
    ⊎_elim (λ (h : w < v). let e : min w v ≡ w = omega arith in subst (λ x. R x ≡ true) (sym e) a)
    (λ (h : v ≤ w). let e : min w v ≡ v = omega arith in subst (λ x. R x ≡ true) (sym e) b) (cases_lt w v)

-- where R passes just what P or Q passes, its least is the lesser of theirs
pub least_or : (P Q R : ℕ → Bool) (t : ℕ) (q r : Option ℕ) → ((u : ℕ) → t ≤ u → R u ≡ true → (P u ≡ true) ⊎ (Q u ≡ true)) → ((u : ℕ) → t ≤ u → P u ≡ true → R u ≡ true) → ((u : ℕ) → t ≤ u → Q u ≡ true → R u ≡ true) → Least P t q → Least Q t r → Least R t (lesser_of q r)
least_or P Q R t None None back f g l k = λ u h e. ⊎_elim (l u h) (k u h) (back u h e)
least_or P Q R t None (Some v) back f g l k =
    (k.0, g v k.0 k.1, λ u h lt e. ⊎_elim (l u h) (k.2 u h lt) (back u h e))
least_or P Q R t (Some w) None back f g l k =
    (l.0, f w l.0 l.1, λ u h lt e. ⊎_elim (l.2 u h lt) (k u h) (back u h e))
least_or P Q R t (Some w) (Some v) back f g l k = (
  omega arith,
  passes_min R w v (f w l.0 l.1) (g v k.0 k.1),
  λ u h lt e. ⊎_elim (l.2 u h (omega arith)) (k.2 u h (omega arith)) (back u h e),
)

-- there is one least number, or none
pub least_one : (P : ℕ → Bool) (t : ℕ) (q r : Option ℕ) → Least P t q → Least P t r → q ≡ r
least_one P t None None l k = refl
least_one P t None (Some v) l k = absurd (l v k.0 k.1)
least_one P t (Some w) None l k = absurd (k w l.0 l.1)
least_one P t (Some w) (Some v) l k =
    ⊎_elim (ap Some)
    (⊎_elim (λ (h : w < v). absurd (k.2 w l.0 h l.1)) (λ (h : v < w). absurd (l.2 v k.0 h k.1))) (cases_order w v)

-- where only u passes, the least from t on is u, if u is not below t
pub least_only : (P : ℕ → Bool) (t u : ℕ) (b : Bool) → b ≡ leb t u → P u ≡ true → ((v : ℕ) → P v ≡ true → v ≡ u) → Least P t (then_some b u)
least_only P t u true e there only = (grind (arith, nat_tests), there, λ v h less p. let same = only v p in omega arith)
least_only P t u false e there only = λ v h p. let same = only v p in grind (arith, nat_tests)
