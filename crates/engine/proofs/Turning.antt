-- A greatest F is a least F of the other side.
use Rattle.std.proofs.Common.{◌≡◌, ℕ, zero, suc, ◌<◌, Bool, true, false, not, ◌&&◌, ◌||◌, sym, refl, ap, ◌∙◌, ⊎_elim}
use Rattle.std.proofs.lemmas.Bool.{cases_Bool, both_ways, false_from_ne_true, not-true, not-false, not_from_true, not_from_false}
use Rattle.model.specs.Meaning.{Meaning}
use Rattle.logic.proofs.Rounds.{rounds_turned, turned}
use Rattle.logic.proofs.Rules.{F_monotone}
use Rattle.logic.proofs.Steps.{pre_parts, pre_dual}
use Rattle.logic.specs.FixedPoints.{pre, F, rounds}
use Rattle.logic.specs.Sets.{Set, ◌∈◌, empty, complement}
use Rattle.engine.specs.Marks.{members, ours, Rounds, StateSet}
use Rattle.engine.specs.Rounded.{Joins, Leaves, Turned, step_f}
use Rattle.engine.proofs.Growing.{alike}

-- both sides cannot have their way
clash : (m : Meaning) (some : Bool) (U : Set) (s : ℕ) → s ∈ pre m (ours (not some)) U → s ∈ pre m (ours some) (complement U) → ⊥
clash m some U s a b =
    ⊎_elim
    (λ (o, t, l, k, e).
    ⊎_elim (λ z. both_ways some (not-true some o) z.0) (λ (_, f). both_ways (U t) (not-true (U t) (f t l k)) e) (pre_parts m (ours some) (complement U) s b))
    (λ (o, f).
    ⊎_elim (λ (_, t, l, k, e). both_ways (U t) (not-true (U t) e) (f t l k)) (λ z. both_ways some z.0 (not-false some o)) (pre_parts m (ours some) (complement U) s b))
    (pre_parts m (ours (not some)) U s a)

turn_pre : (m : Meaning) (some : Bool) (U : Set) (s : ℕ) → pre m (ours (not some)) U s ≡ not (pre m (ours some) (complement U) s)
turn_pre m some U s =
    ⊎_elim (λ e. false_from_ne_true _ (λ a. clash m some U s a e) ∙ sym (not_from_true (pre m (ours some) (complement U) s) e))
    (λ e. pre_dual m (ours some) U s e ∙ sym (not_from_false (pre m (ours some) (complement U) s) e))
    (cases_Bool (pre m (ours some) (complement U) s))

turn_bool : (a b p : Bool) → ((not a && not b) || not a && not p) ≡ not (a || b && p)
turn_bool true b p = refl
turn_bool false true true = refl
turn_bool false true false = refl
turn_bool false false p = refl

turn_f : (m : Meaning) (some : Bool) (S1 S2 A B U : Set) (s : ℕ) → A s ≡ (not (S1 s) && not (S2 s)) → B s ≡ not (S1 s) → F m (ours (not some)) A B U s ≡ complement (F m (ours some) S1 S2 (complement U)) s
unfolding F
turn_f m some S1 S2 A B U s a b = rw (a, b, turn_pre m some U s) (turn_bool (S1 s) (S2 s) (pre m (ours some) (complement U) s))

-- rounds of two operators that do the same below n
pub rounds_alike : (n : ℕ) (f g : Set → Set) → ((T U : Set) → ((s : ℕ) → s < n → T s ≡ U s) → (s : ℕ) → s < n → f T s ≡ g U s) → (T : Set) (i s : ℕ) → s < n → rounds f i T s ≡ rounds g i T s
rounds_alike n f g h T zero s l = refl
rounds_alike n f g h T (suc i) s l = h (rounds f i T) (rounds g i T) (rounds_alike n f g h T i) s l

-- to leave F is to join F for the other side
pub turn_joins : (m : Meaning) (some : Bool) (s1 s2 a b : StateSet) (x : Rounds) (k : ℕ) → Turned m.states s1 s2 a b → Joins m.states (step_f m (not some) a b) x k → Leaves m.states (step_f m some s1 s2) x k
unfolding turned
turn_joins m some s1 s2 a b x k t js s l j h =
    ap not (js s l j h ∙ rounds_alike m.states (step_f m (not some) a b) (turned (step_f m some s1 s2)) step empty j s l)
    ∙ sym (ap (λ (T : Set). T s) (rounds_turned (step_f m some s1 s2) j))
  where
    step : (T U : Set) → ((s : ℕ) → s < m.states → T s ≡ U s) → (s : ℕ) → s < m.states → step_f m (not some) a b T s ≡ turned (step_f m some s1 s2) U s
    step T U e s l =
        alike m.states (step_f m (not some) a b) (F_monotone m (ours (not some)) (members a) (members b)) T U e s l
        ∙ turn_f m some (members s1) (members s2) (members a) (members b) U s (t s l).0 (t s l).1
