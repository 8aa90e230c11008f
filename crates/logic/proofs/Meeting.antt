-- What comes of a task: a walk that does it meets a level, or breaks it.
use Rattle.std.proofs.Common.{◌≡◌, ℕ, ◌<◌, ◌≤◌, Bool, true, false, not, ◌⊎◌, Some, None, Option, refl, inl, inr, ⊎_elim, arith}
use Rattle.std.proofs.lemmas.Bool.{both_ways, and_parts, or_cases, not-true}
use Rattle.scale.specs.declared.reading.Reading.{Reading}
use Rattle.scale.specs.declared.reading.Reading.TheVariants.{Sometime, InfinitelyOften, EventuallyAlways, Always}
use Rattle.logic.specs.Searches.{Task, task, neither, meet_weak, break_weak, meet_task, break_task, task_of, Shows}
use Rattle.logic.specs.Sets.{Set, ◌∈◌, empty, full, union, complement}
use Rattle.logic.specs.Walks.{Operator, Often, Seen, Meets, Quantifier}
use Rattle.logic.specs.Walks.Operator.{next, finally, globally, until, weak}
use Rattle.logic.specs.Walks.Quantifier.{some_walk, every_walk}
use Rattle.logic.proofs.Measures.{Good, Keeps, Recurs, Settles}
use Rattle.logic.proofs.Search.{first, split, at_last}

-- from some position on, or again and again
abbrev pub Again : Bool → Set → Set → (ℕ → ℕ) → Type 0
Again true A C π = Settles A C π
Again false A C π = Recurs A C π

abbrev pub Does : Task → (ℕ → ℕ) → Type 0
Does t π = Keeps t.A t.B t.C π × Again t.settles t.A t.C π

-- the walk does the task; for X, its step goes into A
abbrev pub Done : Operator → Task → (ℕ → ℕ) → Type 0
Done next t π = π 1 ∈ t.A
Done finally t π = Does t π
Done globally t π = Does t π
Done until t π = Does t π
Done weak t π = Does t π

-- nothing is in the empty set
pub nowhere : {X : Type 0} (s : ℕ) → s ∈ empty → X
nowhere s e = absurd (both_ways false refl e)

pub often_map : (r : Option Reading) (P Q : ℕ → Type 0) → ((j : ℕ) → P j → Q j) → Often r P → Often r Q
often_map None P Q f o = o
often_map (Some Sometime) P Q f (j, g) = (j, f j g)
often_map (Some InfinitelyOften) P Q f o = λ k. let (j, l, g) = o k in (j, l, f j g)
often_map (Some EventuallyAlways) P Q f (k, g) = (k, λ j l. f j (g j l))
often_map (Some Always) P Q f o = λ j. f j (o j)

-- the first position with a set that is seen
first-seen : (A : Set) (π : ℕ → ℕ) (j : ℕ) → Good A empty π j → (i : ℕ) × (π i ∈ A) × ((k : ℕ) → k < i → Seen A π k → ⊥)
first-seen A π j (inl e) = nowhere (π j) e
first-seen A π j (inr (i, l, e)) =
    let (f, _, a, none) = first (λ k. A (π k)) i e in (f, a, λ k h (q, g, b). both_ways (A (π q)) (none q (omega arith)) b)

module _ (left right : Set) (π : ℕ → ℕ) where
  abbrev Neither : Set
  Neither = neither left right

  not_right : (t : ℕ) → t ∈ Neither → right t ≡ false
  not_right t e = not-true (right t) (and_parts (not (right t)) (not (left t)) e).0

  not_left : (t : ℕ) → t ∈ Neither → left t ≡ false
  not_left t e = not-true (left t) (and_parts (not (right t)) (not (left t)) e).1

  -- a position without left, and without right up to it, is not good
  bad : (j : ℕ) → left (π j) ≡ false → ((i : ℕ) → i ≤ j → right (π i) ≡ false) → Good right left π j → ⊥
  bad j l r (inl e) = both_ways (left (π j)) l e
  bad j l r (inr (i, h, e)) = both_ways (right (π i)) (r i h) e

  until_meets : Does (task right left empty false) π → Meets until None left right π
  until_meets (k, again) =
      let (i, e, none) = first-seen right π (again 0).0 (again 0).2 in
      (i, e, λ j h. ⊎_elim (λ z. absurd (none j h z)) (⊎_elim (λ z. z) (nowhere (π j))) (k j))

  until_breaks : Does (task Neither empty (complement right) false) π → ¬ Meets until None left right π
  until_breaks (k, again) (j, r, f) = go (k j)
    where
      go : Seen Neither π j ⊎ ((π j ∈ empty) ⊎ (π j ∈ complement right)) → ⊥
      go (inl (i, l, e)) =
          ⊎_elim (λ h. both_ways (left (π i)) (not_left (π i) e) (f i h)) (λ h. both_ways (right (π i)) (not_right (π i) e) (rw h r))
          (split i j (omega arith))
      go (inr (inl e)) = nowhere (π j) e
      go (inr (inr e)) = both_ways (right (π j)) (not-true (right (π j)) e) r

  weak_meets : (r : Reading) → Does (meet_weak r left right) π → Meets weak (Some r) left right π
  weak_meets Always (k, again) = λ j. ⊎_elim inr (⊎_elim (nowhere (π j)) inl) (k j)
  weak_meets EventuallyAlways (k, again) = again
  weak_meets InfinitelyOften (k, again) = again
  weak_meets Sometime (k, again) =
      let (i, e, none) = first-seen (union right left) π (again 0).0 (again 0).2 in
      (i, ⊎_elim (λ r. inr (i, omega arith, r)) inl (or_cases (right (π i)) (left (π i)) e))

  not_always : Keeps Neither (complement right) empty π → Recurs Neither empty π → ((j : ℕ) → Good right left π j) → ⊥
  not_always k r all =
      let (i, e, none) = first-seen Neither π (r 0).0 (r 0).2 in
      let never : (j : ℕ) → j < i → right (π j) ≡ false =
      λ j h. ⊎_elim (λ z. absurd (none j h z)) (⊎_elim (not-true (right (π j))) (nowhere (π j))) (k j) in
      bad i (not_left (π i) e) (λ j h. at_last (λ j. right (π j) ≡ false) i never (not_right (π i) e) j (omega arith)) (all i)

  never_right : Keeps empty (complement right) Neither π → (j : ℕ) → right (π j) ≡ false
  never_right k j = ⊎_elim (λ (i, l, e). nowhere (π i) e) (⊎_elim (not-true (right (π j))) (not_right (π j))) (k j)

  not_at : Keeps empty (complement right) Neither π → (j : ℕ) → Good empty Neither π j → Good right left π j → ⊥
  not_at k j (inl e) g = bad j (not_left (π j) e) (λ i h. never_right k i) g
  not_at k j (inr (i, l, e)) g = nowhere (π i) e

  always_neither : Keeps empty empty Neither π → (j : ℕ) → π j ∈ Neither
  always_neither k j = ⊎_elim (λ (i, l, e). nowhere (π i) e) (⊎_elim (nowhere (π j)) (λ e. e)) (k j)

  weak_breaks : (r : Reading) → Does (break_weak r left right) π → ¬ Meets weak (Some r) left right π
  weak_breaks Always (k, again) o = not_always k again o
  weak_breaks EventuallyAlways (k, again) o = let (j, l, g) = again o.0 in not_at k j g (o.1 j l)
  weak_breaks InfinitelyOften (k, again) o = let (j, l, g) = o again.0 in not_at k j (again.1 j l) g
  weak_breaks Sometime (k, again) (j, g) =
      bad j (not_left (π j) (always_neither k j)) (λ i h. not_right (π i) (always_neither k i)) g

-- G is W with nothing on the right, F is U with everything on the left
module _ (r : Reading) (left right : Set) (π : ℕ → ℕ) where
  lone : (j : ℕ) → Good empty left π j → π j ∈ left
  lone j (inl e) = e
  lone j (inr (i, l, e)) = nowhere (π i) e

  pub meets : (op : Operator) → Done op (meet_task op r left right) π → Meets op (Some r) left right π
  meets next d = d
  meets finally d = let (j, e, _) = until_meets full left π d in (j, e)
  meets until d = until_meets left right π d
  meets globally d = often_map (Some r) (Good empty left π) (λ j. π j ∈ left) lone (weak_meets left empty π r d)
  meets weak d = weak_meets left right π r d

  pub breaks : (op : Operator) → Done op (break_task op r left right) π → ¬ Meets op (Some r) left right π
  breaks next d e = both_ways (left (π 1)) (not-true (left (π 1)) d) e
  breaks finally d (j, e) = until_breaks full left π d (j, e, λ i l. refl)
  breaks until d o = until_breaks left right π d o
  breaks globally d o =
      weak_breaks left empty π r d (often_map (Some r) (λ j. π j ∈ left) (Good empty left π) (λ j e. inl e) o)
  breaks weak d o = weak_breaks left right π r d o

  pub shows : (q : Quantifier) (op : Operator) → Done op (task_of q op r left right) π → Shows q op r left right π
  shows some_walk op d = meets op d
  shows every_walk op d = breaks op d
