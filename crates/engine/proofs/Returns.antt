-- Nested fixed points of H by F alone.
use Rattle.std.proofs.Common.{◌≡◌, ℕ, zero, suc, ◌<◌, ◌≤◌, Bool, true, false, not, ◌&&◌, ◌||◌, ltb, sym, refl, ap, ◌∙◌, subst, arith}
use native.Mathlib.Decide.{le_ind}
use Rattle.std.proofs.lemmas.Bool.{lt-ltb, or_left}
use Rattle.model.specs.Meaning.{Meaning}
use Rattle.logic.proofs.Rounds.{rounds-within, gfp_open, gfp_shut}
use Rattle.logic.proofs.Rules.{F_monotone}
use Rattle.logic.proofs.Sets.{Monotone, same_test, within_itself}
use Rattle.logic.proofs.Tasks.{H_rule}
use Rattle.logic.specs.FixedPoints.{pre, F, rounds, gfp}
use Rattle.logic.specs.Searches.{H}
use Rattle.logic.specs.Sets.{Set, empty, full}
use Rattle.engine.specs.Marks.{members, round_of, before, ours, Rounds, StateSet}
use Rattle.engine.specs.Passing.{step_h, returned, Returning, remained}
use Rattle.engine.specs.Rounded.{Joins, Leaves, joined, Round, step_f, Holds, Applied}
use Rattle.engine.proofs.Growing.{alike}
use Rattle.engine.proofs.Nesting.{Same}
use Rattle.engine.proofs.Turning.{rounds_alike}

-- where one round changes nothing, no later one does
still-rounds : (n : ℕ) (f : Set → Set) → ((T U : Set) → Same n T U → Same n (f T) (f U)) → (T : Set) (i : ℕ) → Same n (rounds f (suc i) T) (rounds f i T) → (k : ℕ) → i ≤ k → Same n (rounds f k T) (rounds f i T)
still-rounds n f ext T i h =
    le_ind (λ k. Same n (rounds f k T) (rounds f i T)) (λ s l. refl) (λ k q ih s l. ext (rounds f k T) (rounds f i T) ih s l ∙ h s l)

-- H is F of what F makes of its last set
swap : (a b u c v : Bool) → (a || b && u || c && v) ≡ ((a || c && v) || b && u)
swap true b u c v = refl
swap false true true true true = refl
swap false true true true false = refl
swap false true true false v = refl
swap false true false true true = refl
swap false true false true false = refl
swap false true false false v = refl
swap false false u true true = refl
swap false false u true false = refl
swap false false u false v = refl

-- after j outer rounds of a greatest fixed point of least ones: x has the returned rounds from base, which is F of the set of the round before
pub record Outer (m : Meaning) (some : Bool) (right pass left base : StateSet) (x : Rounds) (j : ℕ) : Type 0 where
  pub fixed : Joins m.states (step_f m some base pass) x (suc m.states)
  pub after : Same m.states (before x (suc m.states)) (rounds (returned m some right pass left) j full)
  pub from_last : (i : ℕ) → j ≡ suc i → Holds m.states (step_f m some right left (rounds (returned m some right pass left) i full)) base

module _ (m : Meaning) (some : Bool) (right pass left : StateSet) where
  abbrev n : ℕ
  n = m.states

  abbrev own : Set
  own = ours some

  -- the inner fixed point is a least F of base and pass, where base is F of the outer set
  base_step : (base : StateSet) (T2 : Set) → Holds n (step_f m some right left T2) base → (T U : Set) → Same n T U → Same n (step_f m some base pass T) (step_h m some right pass left U T2)
  unfolding F H
  base_step base T2 hb T U e s q =
      alike n (step_f m some base pass) (F_monotone m own (members base) (members pass)) T U e s q
      ∙ rw (hb s q) refl
      ∙ sym (swap (members right s) (members pass s) (pre m own U s) (members left s) (pre m own T2 s))

  -- base is F of T, which has the states of T2
  abbrev Made : StateSet → Set → Set → Type 0
  Made base T T2 = Holds n (step_f m some right left T) base × Same n T T2

  made : (base : StateSet) (T T2 : Set) → Made base T T2 → Holds n (step_f m some right left T2) base
  made base T T2 (hb, e) s q = hb s q ∙ alike n (step_f m some right left) (F_monotone m own (members right) (members left)) T T2 e s q

  -- so the rounds of the one are the rounds of the other
  base_rounds : (base : StateSet) (T T2 : Set) → Made base T T2 → (i : ℕ) → Same n (rounds (step_f m some base pass) i empty) (rounds (λ T1. step_h m some right pass left T1 T2) i empty)
  base_rounds base T T2 h =
      rounds_alike n (step_f m some base pass) (λ T1. step_h m some right pass left T1 T2) (base_step base T2 (made base T T2 h)) empty

  returned_monotone : Monotone n (returned m some right pass left)
  returned_monotone T U h =
      rounds-within n (λ T1. step_h m some right pass left T1 T) (λ T1. step_h m some right pass left T1 U)
      (λ V W e. (H_rule m own (members right) (members pass) (members left)).monotone V W T U e h) empty empty (within_itself n empty) (suc n)

  pub outer_none : (base : StateSet) (x : Rounds) → Holds n full base → ((s : ℕ) → s < n → round_of x s ≡ 0) → Outer m some right pass left base x 0
  unfolding F
  outer_none base x h z = record {
    fixed = λ s q j le. ap (λ v. ltb v j) (z s q) ∙ go s q j;
    after = λ s q. ap (λ v. ltb v (suc n)) (z s q) ∙ lt-ltb 0 (suc n) (omega arith);
    from_last = λ i e. absurd (omega arith);
  }
    where
      go : (s : ℕ) → s < n → (j : ℕ) → ltb 0 j ≡ rounds (step_f m some base pass) j empty s
      go s q zero = refl
      go s q (suc j) =
          lt-ltb 0 (suc j) (omega arith)
          ∙ sym (or_left (members base s) (members pass s && pre m own (rounds (step_f m some base pass) j empty) s) (h s q))

  module _ (base base' : StateSet) (x : Rounds) (j : ℕ) (o : Outer m some right pass left base x j) where
    pub outer_more : (changed : Bool) → Applied n (step_f m some right left (before x (suc n))) base base' changed → (y : Rounds) → Joins n (step_f m some base' pass) y (suc n) → Outer m some right pass left base' y (suc j)
    outer_more changed a y js = record {
      fixed = js;
      after = λ s q.
          js s q (suc n) (omega arith)
          ∙ base_rounds base' (before x (suc n)) (rounds (returned m some right pass left) j full) (a.each, o.after) (suc n) s q;
      from_last = λ i e.
          let same-j : j ≡ i = omega arith in
          subst (λ k. Holds n (step_f m some right left (rounds (returned m some right pass left) k full)) base') same-j
          (made base' (before x (suc n)) (rounds (returned m some right pass left) j full) (a.each, o.after));
    }

    -- nothing changed: base is F of the set found
    module _ (a : Applied n (step_f m some right left (before x (suc n))) base base' false) where
      found : Made base (before x (suc n)) (rounds (returned m some right pass left) j full)
      found = (λ s q. sym (a.still refl s q) ∙ a.each s q, o.after)

      still_once : Same n (rounds (returned m some right pass left) (suc j) full) (rounds (returned m some right pass left) j full)
      still_once s q =
          sym (base_rounds base (before x (suc n)) (rounds (returned m some right pass left) j full) found (suc n) s q)
          ∙ sym (o.fixed s q (suc n) (omega arith)) ∙ o.after s q

      is_gfp : j ≤ suc n → Same n (rounds (returned m some right pass left) j full) (gfp n (returned m some right pass left))
      is_gfp h s q = sym (still-rounds n (returned m some right pass left) (alike n (returned m some right pass left) returned_monotone) full j still_once (suc n) h s q)

      pub outer_last : j ≤ suc n → Returning m some right pass left x
      outer_last h = record {
        set = λ s q. o.after s q ∙ is_gfp h s q;
        rounds_of = λ s q i le.
            o.fixed s q i le
            ∙ base_rounds base (before x (suc n)) (gfp n (returned m some right pass left)) (found.0, λ s q. o.after s q ∙ is_gfp h s q) i s q;
      }

  -- after n + 2 rounds
  pub outer_end : (base : StateSet) (x : Rounds) (j : ℕ) → j ≡ suc (suc n) → Outer m some right pass left base x j → Returning m some right pass left x
  outer_end base x j e o =
      let top = gfp n (returned m some right pass left) in
      record {
        set = λ s q.
            o.after s q ∙ ap (λ k. rounds (returned m some right pass left) k full s) e
            ∙ same_test (returned m some right pass left top s) (top s) (gfp_shut n (returned m some right pass left) returned_monotone s q)
            (gfp_open n (returned m some right pass left) returned_monotone s q);
        rounds_of = λ s q i le. o.fixed s q i le ∙ base_rounds base top top (o.from_last (suc n) e, λ s q. refl) i s q;
      }

-- a least fixed point of greatest ones: the returned is a greatest F of base and left, where base is F of the outer set
module _ (m : Meaning) (some : Bool) (right pass left : StateSet) where
  pub remained_monotone : Monotone m.states (remained m some right pass left)
  remained_monotone T U h =
      rounds-within m.states (λ T2. step_h m some right pass left T T2) (λ T2. step_h m some right pass left U T2)
      (λ V W e. (H_rule m (ours some) (members right) (members pass) (members left)).monotone T U V W h e) full full (within_itself m.states full) (suc m.states)

  module _ (base : StateSet) (T1 : Set) (made : Holds m.states (step_f m some right pass T1) base) where
    settle_step : (T U : Set) → Same m.states T U → Same m.states (step_f m some base left T) (step_h m some right pass left T1 U)
    unfolding F H
    settle_step T U e s q =
        alike m.states (step_f m some base left) (F_monotone m (ours some) (members base) (members left)) T U e s q
        ∙ rw (made s q) refl

    stayed : (x : Rounds) → Leaves m.states (step_f m some base left) x (suc m.states) → Same m.states (λ s. not (before x (suc m.states) s)) (remained m some right pass left T1)
    stayed x ls s q =
        ls s q (suc m.states) (omega arith)
        ∙ rounds_alike m.states (step_f m some base left) (λ T2. step_h m some right pass left T1 T2) settle_step full (suc m.states) s q

  -- a round of it: those join that have not left the greatest F of base and left, where base is F of those that joined before
  pub settled_round : (k : ℕ) (x y gone : Rounds) (base : StateSet) (grew : Bool) → Holds m.states (step_f m some right pass (before x k)) base → Leaves m.states (step_f m some base left) gone (suc m.states) → Round m.states (λ _ s. not (before gone (suc m.states) s)) k x y grew → Round m.states (remained m some right pass left) k x y grew
  settled_round k x y gone base grew made ls r = record {
    each = λ s q. r.each s q ∙ ap (λ b. joined b k (round_of x s)) (stayed base (before x k) made gone ls s q);
    still = r.still;
  }
