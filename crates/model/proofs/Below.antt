-- What the tests over the numbers below a bound say.
use Rattle.std.proofs.Common.{◌≡◌, ℕ, zero, suc, ◌+◌, ◌<◌, Bool, true, false, ◌||◌, [], ◌∷◌, ◌++◌, Decides, sym, refl, ap, ◌∙◌, add-one, arith}
use Rattle.std.specs.List.{list_any, range_with_len}
use Rattle.std.proofs.lemmas.List.{map-id}
use Rattle.std.proofs.lemmas.List.Folds.{list_any-append}
use Rattle.std.proofs.lemmas.List.FromFn.{map-range_with_len_more}
use Rattle.std.proofs.lemmas.Bool.Decides.{Decides-below_and, Decides-below_or}
use Rattle.model.specs.Below.{some, every}

pub every_decides : (passes : ℕ → Bool) (n : ℕ) → Decides (every n passes) ((k : ℕ) → k < n → passes k ≡ true)
every_decides passes n =
    Decides-below_and passes (λ k. passes k ≡ true) (λ n. every n passes) (λ k. ((λ e. e), (λ e. e))) refl (λ _. refl) n

pub some_decides : (passes : ℕ → Bool) (n : ℕ) → Decides (some n passes) ((k : ℕ) × (k < n) × (passes k ≡ true))
some_decides passes n =
    Decides-below_or passes (λ k. passes k ≡ true) (λ n. some n passes) (λ k. ((λ e. e), (λ e. e))) refl (λ _. refl) n

-- a range has one number more at its end
pub range_more : (n : ℕ) → range_with_len 0 (suc n) ≡ range_with_len 0 n ++ n ∷ []
range_more n =
    ap (range_with_len 0) (sym (add-one n)) ∙ sym (map-id (range_with_len 0 (n + 1))) ∙ map-range_with_len_more (λ k. k) 0 n n (omega arith)
    ∙ ap (λ ks. ks ++ n ∷ []) (map-id (range_with_len 0 n))

swapped : (a b : Bool) → (a || (b || false)) ≡ (b || a)
swapped true true = refl
swapped true false = refl
swapped false true = refl
swapped false false = refl

-- the same test over a range, as an iterator makes it
pub list_any-below : (passes : ℕ → Bool) (n : ℕ) → list_any passes (range_with_len 0 n) ≡ some n passes
list_any-below passes zero = refl
list_any-below passes (suc n) =
    ap (list_any passes) (range_more n) ∙ list_any-append passes (range_with_len 0 n) (n ∷ [])
    ∙ ap (λ b. b || (passes n || false)) (list_any-below passes n) ∙ swapped (some n passes) (passes n)
