-- Whether all bytes of a row are degrees, from what `all` answers.
use Rattle.std.proofs.Common.{◌≡◌, ℕ, ◌+◌, ◌<◌, ◌≤◌, Bool, true, false, leb, List, length, get_or, MatchBool, sym, subst, arith}
use Rattle.std.specs.List.{between, AllWithin, HoldsAt}
use Rattle.std.proofs.lemmas.Bool.{both_ways, false_from_ne_true, le-leb, lt-leb}
use Rattle.std.proofs.lemmas.List.Edits.{length-between, get_or-between}
use Rattle.model.specs.Below.{every}
use Rattle.model.proofs.Below.{every_decides}

pub all_pass : (passes : ℕ → Bool) (n : ℕ) → ((k : ℕ) → k < n → passes k ≡ true) → true ≡ every n passes
all_pass passes n h = sym ((every_decides passes n).1 h)

pub judged : (bs : List ℕ) (i n top : ℕ) (r : Bool) → i + n ≤ length bs →
    MatchBool r (AllWithin (λ x. x ≤ top) (between i (i + n) bs) 0 (length (between i (i + n) bs))) ((k : ℕ) × (k < length (between i (i + n) bs)) × HoldsAt (λ x. top < x) (between i (i + n) bs) k) →
    r ≡ every n (λ k. leb (get_or bs (i + k) 0) top)
judged bs i n top true h m =
    all_pass _ n (λ k l.
    le-leb _ _ (subst (λ x. x ≤ top) (get_or-between bs i (i + n) k 0 (omega arith)) (m k 0 (omega arith) (omega (arith, length-between bs i (i + n) h)))))
judged bs i n top false h (k, l, w) =
    let inside : k < n = omega (arith, l, length-between bs i (i + n) h) in
    let above : top < get_or bs (i + k) 0 = subst (λ x. top < x) (get_or-between bs i (i + n) k 0 (omega arith)) (w 0) in
    sym (false_from_ne_true _ (λ t. both_ways _ (lt-leb _ _ above) ((every_decides _ n).0 t k inside)))
