-- The states at which bytes reach a level.
use Rattle.std.proofs.Common.{◌≡◌, ℕ, ◌<◌, ◌≤◌, false, cond, ltb, leb, sym, ap, ◌∙◌, ⊎_elim, arith}
use Rattle.std.proofs.lemmas.Bool.{cases_lt, lt-ltb, le-ltb, lt-leb}
use Rattle.engine.specs.Marks.{StateSet, members}

pub reached : (f : ℕ → ℕ) (l n : ℕ) (b : StateSet) → ((s : ℕ) → s < n → members b s ≡ leb l (f s)) → ((s : ℕ) → n ≤ s → members b s ≡ false) → 1 ≤ l → (s : ℕ) → members b s ≡ leb l (cond (ltb s n) (f s) 0)
reached f l n b inside others some s =
    ⊎_elim (λ (z : s < n). inside s z ∙ ap (λ t. leb l (cond t (f s) 0)) (sym (lt-ltb s n z)))
    (λ (z : n ≤ s). others s z ∙ sym (lt-leb l 0 (omega arith)) ∙ ap (λ t. leb l (cond t (f s) 0)) (sym (le-ltb s n z))) (cases_lt s n)
