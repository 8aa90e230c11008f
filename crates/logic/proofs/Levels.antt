-- Sets and walks agree at every level, and a higher level is harder to reach.
use Rattle.std.proofs.Common.{◌≡◌, ℕ, ◌+◌, ◌<◌, ◌≤◌, true, ◌⊎◌, ◌↔◌, is_some, Some, None, Option, sym, refl, ap, subst, inl, inr, ⊎_elim, arith}
use Rattle.std.proofs.lemmas.Bool.{cases_Bool, both_ways, leb-true, le-leb}
use Rattle.model.specs.Meaning.{Meaning, Lawful}
use Rattle.model.specs.Walkable.{Total}
use Rattle.scale.specs.Grades.{Grades, Lawful as Orderly}
use Rattle.scale.specs.Readings.{strength}
use Rattle.scale.specs.declared.reading.Reading.{Reading}
use Rattle.scale.specs.declared.reading.Reading.TheVariants.{Sometime, InfinitelyOften, EventuallyAlways, Always}
use Rattle.logic.specs.FixedPoints.{choosing}
use Rattle.logic.specs.Kinds.{reach}
use Rattle.logic.specs.Kinds.Kind.{path}
use Rattle.logic.specs.Satisfaction.{sat_path, sat}
use Rattle.logic.specs.Sets.{Set, ◌∈◌, Within}
use Rattle.logic.specs.Theorems.{SetsAreWalks, BrokenBySomeWalk, LevelsShrink}
use Rattle.logic.specs.Walks.{Operator, Often, Seen, Meets, Quantifier, Quantified}
use Rattle.logic.specs.Walks.Operator.{next, finally, globally, until, weak}
use Rattle.logic.specs.Walks.Quantifier.{some_walk, every_walk}
use Rattle.logic.proofs.Meeting.{often_map}
use Rattle.logic.proofs.Outcomes.{other, quantified_map}
use Rattle.logic.proofs.Paths.{path_yes, path_no}

clash : (q : Quantifier) (m : Meaning) (s : ℕ) (P : (ℕ → ℕ) → Type 0) → Quantified q m s P → Quantified (other q) m s (λ π. ¬ P π) → ⊥
clash some_walk m s P (π, w, p) h = h π w (λ not-p. not-p p)
clash every_walk m s P h (π, w, not-p) = h π w not-p

pub sets_are_walks : SetsAreWalks
sets_are_walks m law total q op r left right s here = (
  path_yes m law total s here q r left right op,
  λ h. ⊎_elim (λ e. e) (λ e. absurd (clash q m s (Meets op (Some r) left right) h (path_no m law total s here q r left right op e)))
      (cases_Bool (sat_path m (choosing q) op (Some r) left right s)),
)

pub broken_by_some_walk : BrokenBySomeWalk
broken_by_some_walk m law total op r left right s here h = path_no m law total s here every_walk r left right op h

-- what is met by a reading is met by a weaker one
weaken : (q r : Reading) (P : ℕ → Type 0) → strength q ≤ strength r → Often (Some r) P → Often (Some q) P
weaken Sometime Sometime P h o = o
weaken Sometime InfinitelyOften P h o = let (j, l, g) = o 0 in (j, g)
weaken Sometime EventuallyAlways P h (k, g) = (k, g k (omega arith))
weaken Sometime Always P h o = (0, o 0)
weaken InfinitelyOften Sometime P h o = absurd (omega arith)
weaken InfinitelyOften InfinitelyOften P h o = o
weaken InfinitelyOften EventuallyAlways P h (k, g) = λ i. (i + k, omega arith, g (i + k) (omega arith))
weaken InfinitelyOften Always P h o = λ i. (i, omega arith, o i)
weaken EventuallyAlways Sometime P h o = absurd (omega arith)
weaken EventuallyAlways InfinitelyOften P h o = absurd (omega arith)
weaken EventuallyAlways EventuallyAlways P h o = o
weaken EventuallyAlways Always P h o = (0, λ j l. o j)
weaken Always Sometime P h o = absurd (omega arith)
weaken Always InfinitelyOften P h o = absurd (omega arith)
weaken Always EventuallyAlways P h o = absurd (omega arith)
weaken Always Always P h o = o

seen-map : (R R' : Set) (π : ℕ → ℕ) → ((i : ℕ) → π i ∈ R → π i ∈ R') → (j : ℕ) → Seen R π j → Seen R' π j
seen-map R R' π f j (i, l, e) = (i, l, f i e)

-- larger sets along the walk, and a reading that is no stronger
pub meets_map : (op : Operator) (q r : Reading) → strength q ≤ strength r → (π : ℕ → ℕ) (L L' R R' : Set) → ((i : ℕ) → π i ∈ L → π i ∈ L') → ((i : ℕ) → π i ∈ R → π i ∈ R') → Meets op (Some r) L R π → Meets op (Some q) L' R' π
meets_map next q r h π L L' R R' f g e = f 1 e
meets_map finally q r h π L L' R R' f g (j, e) = (j, f j e)
meets_map until q r h π L L' R R' f g (j, e, b) = (j, g j e, λ i l. f i (b i l))
meets_map globally q r h π L L' R R' f g o = weaken q r (λ j. π j ∈ L') h (often_map (Some r) (λ j. π j ∈ L) (λ j. π j ∈ L') f o)
meets_map weak q r h π L L' R R' f g o =
    weaken q r (λ j. (π j ∈ L') ⊎ Seen R' π j) h
    (often_map (Some r) (λ j. (π j ∈ L) ⊎ Seen R π j) (λ j. (π j ∈ L') ⊎ Seen R' π j) (λ j. ⊎_elim (λ e. inl (f j e)) (λ z. inr (seen-map R R' π g j z))) o)

-- a level of the scale has a reading
pub read : (g : Grades) → Orderly g → (l : ℕ) → 1 ≤ l → l ≤ g.levels → (r : Reading) × (g.reading l ≡ Some r)
read g law l h k = go (g.reading l) refl (law.present l h k)
  where
    go : (o : Option Reading) → g.reading l ≡ o → is_some (g.reading l) ≡ true → (r : Reading) × (g.reading l ≡ Some r)
    go (Some r) e p = (r, e)
    go None e p = absurd (both_ways (is_some (g.reading l)) (ap is_some e) p)

pub reach_lower : (d : ℕ → ℕ) (k l : ℕ) → k ≤ l → (s : ℕ) → s ∈ reach d l → s ∈ reach d k
reach_lower d k l h s e = let z = leb-true l (d s) e in le-leb k (d s) (omega arith)

module _ (m : Meaning) (law : Lawful m) (total : Total m) (g : Grades) (orderly : Orderly g) (q : Quantifier) (op : Operator) (a b : ℕ → ℕ) where
  -- walks from s as level l asks
  abbrev pub At : ℕ → ℕ → Type 0
  At s l = Quantified q m s (Meets op (g.reading l) (reach a l) (reach b l))

  pub sat_is_walks : (l s : ℕ) → 1 ≤ l → l ≤ g.levels → s < m.states → (s ∈ sat m g (path q op) l a b) ↔ At s l
  sat_is_walks l s h k here =
      let (r, e) = read g orderly l h k in
      let both = sets_are_walks m law total q op r (reach a l) (reach b l) s here in
      subst (λ o. (s ∈ sat_path m (choosing q) op o (reach a l) (reach b l)) ↔ Quantified q m s (Meets op o (reach a l) (reach b l))) (sym e) both

  at_lower : (k l s : ℕ) → 1 ≤ k → k ≤ l → l ≤ g.levels → At s l → At s k
  at_lower k l s h le b' z =
      let (p, e) = read g orderly k h (omega arith) in
      let (r, f) = read g orderly l (omega arith) b' in
      let st : strength p ≤ strength r = orderly.rising k l p r le e f in
      quantified_map q m s (Meets op (g.reading l) (reach a l) (reach b l)) (Meets op (g.reading k) (reach a k) (reach b k))
      (λ π w y. subst (λ o. Meets op o (reach a k) (reach b k) π) (sym e)
      (meets_map op p r st π (reach a l) (reach a k) (reach b l) (reach b k) (λ i. reach_lower a k l le (π i)) (λ i. reach_lower b k l le (π i))
      (subst (λ o. Meets op o (reach a l) (reach b l) π) f y))) z

  pub path_shrinks : (k l : ℕ) → 1 ≤ k → k ≤ l → l ≤ g.levels → Within m.states (sat m g (path q op) l a b) (sat m g (path q op) k a b)
  path_shrinks k l h le b' s here e =
      (sat_is_walks k s h (omega arith) here).1 (at_lower k l s h le b' ((sat_is_walks l s (omega arith) b' here).0 e))

pub levels_shrink : LevelsShrink
levels_shrink m law total g orderly q op a b k l h le b' = path_shrinks m law total g orderly q op a b k l h le b'
