-- lfp and gfp are the least and the greatest fixed points.
use Rattle.std.proofs.Common.{ℕ, suc}
use Rattle.logic.specs.FixedPoints.{F, G, lfp, gfp}
use Rattle.logic.specs.Sets.{Set, empty, full}
use Rattle.logic.specs.Theorems.{LeastFixed, GreatestFixed, FixedPointsFound}
use Rattle.logic.proofs.Rounds.{rounds-within, lfp_shut, lfp_open, lfp-least, gfp_open, gfp_shut, gfp-greatest}
use Rattle.logic.proofs.Rules.{F_monotone, G_monotone}
use Rattle.logic.proofs.Sets.{Monotone, within_itself, same_test}

least-fixed : (n : ℕ) (f : Set → Set) → Monotone n f → LeastFixed n f (lfp n f)
least-fixed n f mono = record {
  fixed = λ s l. same_test (f (lfp n f) s) (lfp n f s) (lfp_shut n f mono s l) (lfp_open n f mono s l);
  least = lfp-least n f mono;
}

greatest-fixed : (n : ℕ) (f : Set → Set) → Monotone n f → GreatestFixed n f (gfp n f)
greatest-fixed n f mono = record {
  fixed = λ s l. same_test (f (gfp n f) s) (gfp n f s) (gfp_shut n f mono s l) (gfp_open n f mono s l);
  greatest = gfp-greatest n f mono;
}

pub fixed_points_found : FixedPointsFound
fixed_points_found m own S1 S2 =
    let n = m.states in
    let G1 : (T2 : Set) → Monotone n (λ T1. G m own S1 S2 T1 T2) = λ T2 T U h. G_monotone m own S1 S2 T U T2 T2 h (within_itself n T2) in
    let G2 : (T1 : Set) → Monotone n (λ T2. G m own S1 S2 T1 T2) = λ T1 T U h. G_monotone m own S1 S2 T1 T1 T U (within_itself n T1) h in
    record {
      reach = least-fixed n (λ T. F m own S1 S2 T) (F_monotone m own S1 S2);
      keep = greatest-fixed n (λ T. F m own S1 S2 T) (F_monotone m own S1 S2);
      inner_least = λ T2. least-fixed n (λ T1. G m own S1 S2 T1 T2) (G1 T2);
      inner_greatest = λ T1. greatest-fixed n (λ T2. G m own S1 S2 T1 T2) (G2 T1);
      outer_least = least-fixed n (λ T1. gfp n (λ T2. G m own S1 S2 T1 T2))
          (λ T U h. rounds-within n (λ T2. G m own S1 S2 T T2) (λ T2. G m own S1 S2 U T2) (λ V W k. G_monotone m own S1 S2 T U V W h k) full full (within_itself n full) (suc n));
      outer_greatest = greatest-fixed n (λ T2. lfp n (λ T1. G m own S1 S2 T1 T2))
          (λ T U h. rounds-within n (λ T1. G m own S1 S2 T1 T) (λ T1. G m own S1 S2 T1 U) (λ V W k. G_monotone m own S1 S2 V W T U k h) empty empty (within_itself n empty) (suc n));
    }
