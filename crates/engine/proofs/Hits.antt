-- One step decides whether steps lead into a set, or none does.
use Rattle.std.proofs.Common.{◌≡◌, ℕ, ◌<◌, Bool, true, false, not, sym, refl, ⊎_elim}
use Rattle.std.proofs.lemmas.Bool.{both_ways, false_from_ne_true}
use Rattle.model.specs.Meaning.{Meaning}
use Rattle.logic.proofs.Steps.{pre_parts, pre-some, pre_all}
use Rattle.logic.specs.FixedPoints.{pre}
use Rattle.logic.specs.Sets.{Set}
use Rattle.engine.specs.Marks.{ours}

module _ (m : Meaning) (T : Set) (s : ℕ) where
  pub hit : (some : Bool) (t : ℕ) → t < m.states → m.step s t ≡ true → T t ≡ some → some ≡ pre m (ours some) T s
  hit true t l k e = sym (pre-some m (ours true) T s refl t l k e)
  hit false t l k e =
      sym (false_from_ne_true _ (λ p. ⊎_elim (λ z. both_ways false refl z.0) (λ z. both_ways (T t) e (z.1 t l k)) (pre_parts m (ours false) T s p)))

  pub miss : (some : Bool) → ((t : ℕ) → t < m.states → m.step s t ≡ true → T t ≡ not some) → not some ≡ pre m (ours some) T s
  miss true f =
      sym (false_from_ne_true _ (λ p. ⊎_elim (λ (o, t, l, k, e). both_ways (T t) (f t l k) e) (λ z. both_ways true z.0 refl) (pre_parts m (ours true) T s p)))
  miss false f = sym (pre_all m (ours false) T s refl f)
