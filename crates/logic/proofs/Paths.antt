-- For each temporal operator: from a state of its set walks do what it asks, and from a state outside they do not.
use Rattle.std.proofs.Common.{◌≡◌, ℕ, zero, suc, ◌<◌, Bool, true, false, Some, sym, refl, subst, ⊎_elim}
use Rattle.std.proofs.lemmas.Bool.{not_from_false}
use Rattle.model.specs.Meaning.{Meaning, Lawful}
use Rattle.model.specs.Walkable.{Total}
use Rattle.scale.specs.declared.reading.Reading.{Reading}
use Rattle.logic.specs.FixedPoints.{choosing, pre}
use Rattle.logic.specs.Satisfaction.{sat_path}
use Rattle.logic.specs.Searches.{Task, task, meet_task, break_task}
use Rattle.logic.specs.Sets.{Set, ◌∈◌, empty, full}
use Rattle.logic.specs.Walks.{Walk, Operator, Meets, Quantifier, Quantified}
use Rattle.logic.specs.Walks.Operator.{next, finally, globally, until, weak}
use Rattle.logic.specs.Walks.Quantifier.{some_walk, every_walk}
use Rattle.logic.proofs.Guided.{guided, guided_walk}
use Rattle.logic.proofs.Meeting.{Does, Done, nowhere, meets, breaks}
use Rattle.logic.proofs.Outcomes.{other, choosing_other, quantified_map, inside, in_reach, in_keep}
use Rattle.logic.proofs.Steps.{pre_parts}
use Rattle.logic.proofs.Tasks.{H_rule, found_by, sought_by, meet_sought, break_sought}

-- a step, and then on for ever
before : ℕ → (ℕ → ℕ) → ℕ → ℕ
before s π zero = s
before s π (suc i) = π i

before-walk : (m : Meaning) (s t : ℕ) (π : ℕ → ℕ) → m.step s t ≡ true → Walk m t π → Walk m s (before s π)
unfolding before
before-walk m s t π k w = record { start = refl; along = go }
  where
    go : (i : ℕ) → m.step (before s π i) (before s π (suc i)) ≡ true
    go zero = subst (λ u. m.step s u ≡ true) (sym w.start) k
    go (suc i) = w.along i

before-second : (s t : ℕ) (π : ℕ → ℕ) → π 0 ≡ t → before s π 1 ≡ t
unfolding before
before-second s t π e = e

module _ (m : Meaning) (law : Lawful m) (total : Total m) (s : ℕ) (here : s < m.states) where
  next_yes : (q : Quantifier) (T : Set) → s ∈ pre m (choosing q) T → Quantified q m s (λ π. π 1 ∈ T)
  next_yes some_walk T h =
      ⊎_elim
      (λ (o, t, l, k, e).
      let w = guided_walk m law total (λ u. 0) t l in let π = guided m law total (λ u. 0) t in
      (before s π, before-walk m s t π k w, subst (λ u. u ∈ T) (sym (before-second s t π w.start)) e))
      (λ (o, f). nowhere s (sym o)) (pre_parts m full T s h)
  next_yes every_walk T h = λ π w k.
      ⊎_elim (λ x. nowhere s x.0)
      (λ (o, f). k (f (π 1) (inside m law s π w 1) (subst (λ u. m.step u (π 1) ≡ true) w.start (w.along 0)))) (pre_parts m empty T s h)

  does : (q : Quantifier) (A B C : Set) (k : Bool) → s ∈ found_by m (choosing q) (task A B C k) → Quantified q m s (Does (task A B C k))
  does q A B C true h = in_keep m law total A B C s here q _ (H_rule m (choosing q) A B C) h
  does q A B C false h = in_reach m law total A B C s here q _ (H_rule m (choosing q) A B C) h

  -- a task is done from each state of its set
  done : (q : Quantifier) (op : Operator) (t : Task) → s ∈ sought_by m (choosing q) op t → Quantified q m s (Done op t)
  done q next t h = next_yes q t.A h
  done q finally t h = does q t.A t.B t.C t.settles h
  done q globally t h = does q t.A t.B t.C t.settles h
  done q until t h = does q t.A t.B t.C t.settles h
  done q weak t h = does q t.A t.B t.C t.settles h

  module _ (q : Quantifier) (r : Reading) (left right : Set) (op : Operator) where
    pub path_yes : s ∈ sat_path m (choosing q) op (Some r) left right → Quantified q m s (Meets op (Some r) left right)
    path_yes h =
        quantified_map q m s (Done op (meet_task op r left right)) (Meets op (Some r) left right) (λ π w d. meets r left right π op d)
        (done q op (meet_task op r left right) (meet_sought m (choosing q) op r left right s here h))

    pub path_no : sat_path m (choosing q) op (Some r) left right s ≡ false → Quantified (other q) m s (λ π. ¬ Meets op (Some r) left right π)
    path_no h =
        let t = break_task op r left right in
        let out = break_sought m (choosing q) op r left right s here (not_from_false _ h) in
        quantified_map (other q) m s (Done op t) (λ π. ¬ Meets op (Some r) left right π) (λ π w d. breaks r left right π op d)
        (done (other q) op t (subst (λ own. s ∈ sought_by m own op t) (choosing_other q) out))
