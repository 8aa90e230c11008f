-- A search finds a walk that shows what its row asks, wherever there is one.
use Rattle.std.proofs.Common.{◌≡◌, ℕ, suc, ◌<◌, Bool, true, false, ltb, Some, sym, refl, ◌∙◌, subst, ⊎_elim, arith}
use Rattle.std.proofs.lemmas.Bool.{cases_Bool, both_ways, not_from_false, ltb-true, lt-ltb}
use Rattle.model.specs.Meaning.{Meaning, Lawful}
use Rattle.logic.specs.FixedPoints.{pre}
use Rattle.logic.specs.Satisfaction.{sat_path}
use Rattle.logic.specs.Searches.{H, Task, task, task_of, found, guide_of, sought, Joined, Guides, Followed, SearchFinds, SearchMisses}
use Rattle.logic.specs.Sets.{Set, ◌∈◌, empty, full}
use Rattle.logic.specs.Walks.{Operator}
use Rattle.logic.specs.Walks.Operator.{next, finally, globally, until, weak}
use Rattle.logic.specs.Walks.Quantifier.{some_walk, every_walk}
use Rattle.logic.proofs.Joining.{join, join_order, reach-guides, keep-guides}
use Rattle.logic.proofs.Measures.{Follows}
use Rattle.logic.proofs.Meeting.{Does, Done, nowhere, shows}
use Rattle.logic.proofs.Outcomes.{inside, does_recur, does_settle_by}
use Rattle.logic.proofs.Paths.{path_yes, path_no}
use Rattle.logic.proofs.Steps.{pre_parts}
use Rattle.logic.proofs.Tasks.{H_rule, sought_by, meet_sought, break_sought}

module _ (m : Meaning) (law : Lawful m) (ρ : ℕ → ℕ) (s : ℕ) (here : s < m.states) (π : ℕ → ℕ) (followed : Followed m ρ s π) where
  abbrev n : ℕ
  n = m.states

  within : (i : ℕ) → π i < n
  within = inside m law s π followed.walk

  follows : (f : Set → Set) → Joined n f ρ → Follows m full (join n f) π
  follows f joined i o t l h = join_order n f ρ joined (π (suc i)) t (within (suc i)) l (followed.least i t h)

  follows_does : (A B C : Set) (k : Bool) → Joined n (guide_of m (task A B C k)) ρ → s ∈ found m (task A B C k) → Does (task A B C k) π
  follows_does A B C false joined h =
      does_recur m law full A B C _ s (reach-guides m full A B C (H m full A B C) (H_rule m full A B C) s here h) π followed.walk
      (follows (guide_of m (task A B C false)) joined)
  follows_does A B C true joined h =
      let (w, steady) = keep-guides m full A B C (H m full A B C) (H_rule m full A B C) s h in
      does_settle_by m law full A B C _ s w π followed.walk (follows (guide_of m (task A B C true)) joined) steady followed.from followed.period followed.round

  -- there is a step into A, and a least number after it is that of a state of A
  follows_next : (A : Set) → ((t : ℕ) → t < n → ltb (ρ t) 1 ≡ A t) → s ∈ pre m full A → π 1 ∈ A
  follows_next A marks h =
      ⊎_elim
      (λ (o, t, l, k, e).
      let low = ltb-true (ρ t) 1 (marks t l ∙ e) in
      let least = followed.least 0 t (subst (λ u. m.step u t ≡ true) (sym followed.walk.start) k) in
      sym (marks (π 1) (within 1)) ∙ lt-ltb (ρ (π 1)) 1 (omega arith))
      (λ (o, f). nowhere s (sym o)) (pre_parts m full A s h)

  follows_done : (op : Operator) (t : Task) → Guides m op t ρ → s ∈ sought m op t → Done op t π
  follows_done next t g h = follows_next t.A g h
  follows_done finally t g h = follows_does t.A t.B t.C t.settles g h
  follows_done globally t g h = follows_does t.A t.B t.C t.settles g h
  follows_done until t g h = follows_does t.A t.B t.C t.settles g h
  follows_done weak t g h = follows_does t.A t.B t.C t.settles g h

pub search_finds : SearchFinds
search_finds m law total q op r left right ρ g s here h π followed =
    shows r left right π q op (follows_done m law ρ s here π followed op (task_of q op r left right) g h)

-- a search is for steps that are all ours to choose
all_ours : (m : Meaning) (op : Operator) (t : Task) → sought_by m full op t ≡ sought m op t
all_ours m next t = refl
all_ours m finally t = refl
all_ours m globally t = refl
all_ours m until t = refl
all_ours m weak t = refl

pub search_misses : SearchMisses
search_misses m law total some_walk op r left right s here h π w meet =
    ⊎_elim (λ e. both_ways _ h (subst (λ T. s ∈ T) (all_ours m op _) (meet_sought m full op r left right s here e)))
    (λ e. path_no m law total s here some_walk r left right op e π w (λ no. no meet)) (cases_Bool (sat_path m full op (Some r) left right s))
search_misses m law total every_walk op r left right s here h π w break =
    ⊎_elim (λ e. path_yes m law total s here every_walk r left right op e π w break)
    (λ e. both_ways _ h (subst (λ T. s ∈ T) (all_ours m op _) (break_sought m empty op r left right s here (not_from_false _ e))))
    (cases_Bool (sat_path m empty op (Some r) left right s))
