-- The least of what each number of a range gives, as a fold over the range finds it.
use Rattle.std.proofs.Common.{◌≡◌, ℕ, Bool, ◌&&◌, ◌||◌, ltb, List, [], ◌∷◌, ◌++◌, Option, sym, ap, ◌∙◌, arith}
use Rattle.std.specs.List.{list_any, range_with_len}
use Rattle.std.proofs.lemmas.Bool.{or_cases, or_left, or_right}
use Rattle.std.proofs.lemmas.Bool.Decides.{nat_tests}
use Rattle.std.proofs.lemmas.List.Folds.{list_any-append}
use Rattle.model.specs.Below.{some}
use Rattle.model.specs.Lesser.{lesser_of}
use Rattle.model.specs.Meaning.{Least}
use Rattle.model.proofs.Below.{list_any-below}
use Rattle.model.proofs.Least.{least-same, least_or}

module _ (n t : ℕ) (goes : ℕ → ℕ → Bool) where
  -- u, below n, is where one of the numbers goes
  abbrev pub reached : List ℕ → ℕ → Bool
  reached is u = ltb u n && list_any (λ i. goes i u) is

  -- one number more, which goes where a or b passes
  pub least_more : (a b : ℕ → Bool) (is : List ℕ) (i : ℕ) (q x y : Option ℕ) → ((u : ℕ) → goes i u ≡ (a u || b u)) → Least (reached is) t q → Least (λ u. ltb u n && a u) t x → Least (λ u. ltb u n && b u) t y → Least (reached (is ++ i ∷ [])) t (lesser_of (lesser_of q x) y)
  least_more a b is i q x y split l la lb =
      least_or (λ u. reached is u || (ltb u n && a u)) (λ u. ltb u n && b u) (reached (is ++ i ∷ [])) t (lesser_of q x) y
      (λ u h e. let m = list_any-append (λ i. goes i u) is (i ∷ []) in let p = split u in grind (arith, nat_tests))
      (λ u h e. let m = list_any-append (λ i. goes i u) is (i ∷ []) in let p = split u in grind (arith, nat_tests))
      (λ u h e. let m = list_any-append (λ i. goes i u) is (i ∷ []) in let p = split u in grind (arith, nat_tests))
      (least_or (reached is) (λ u. ltb u n && a u) (λ u. reached is u || (ltb u n && a u)) t q x
      (λ u h e. or_cases (reached is u) (ltb u n && a u) e) (λ u h e. or_left (reached is u) _ e) (λ u h e. or_right (reached is u) _ e) l la) lb

  -- all below k
  pub least_ranged : (k : ℕ) (r : Option ℕ) → Least (reached (range_with_len 0 k)) t r → Least (λ u. ltb u n && some k (λ i. goes i u)) t r
  least_ranged k r =
      least-same (reached (range_with_len 0 k)) (λ u. ltb u n && some k (λ i. goes i u)) t r
      (λ u h e. sym (ap (λ b. ltb u n && b) (list_any-below (λ i. goes i u) k)) ∙ e)
      (λ u h e. ap (λ b. ltb u n && b) (list_any-below (λ i. goes i u) k) ∙ e)
