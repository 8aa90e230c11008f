-- The set of a path row lies in the set of the task to meet its level, and its complement in that of the task to break it.
use Rattle.std.proofs.Common.{◌≡◌, ℕ, suc, false, cond, not, ◌&&◌, ◌||◌, Some, sym, subst, ⊎_elim}
use Rattle.std.proofs.lemmas.Bool.{and_parts, and_from, or_cases, or_parts, or_left, or_right, not-true, not_from_false}
use Rattle.model.specs.Meaning.{Meaning}
use Rattle.scale.specs.declared.reading.Reading.{Reading}
use Rattle.scale.specs.declared.reading.Reading.TheVariants.{Sometime, InfinitelyOften, EventuallyAlways, Always}
use Rattle.logic.specs.FixedPoints.{pre, F, G, lfp, gfp}
use Rattle.logic.specs.Satisfaction.{sat_weak, sat_path}
use Rattle.logic.specs.Searches.{H, Task, task, neither, meet_weak, break_weak, meet_task, break_task}
use Rattle.logic.specs.Sets.{Set, ◌∈◌, empty, full, union, complement, Within}
use Rattle.logic.specs.Walks.{Operator}
use Rattle.logic.specs.Walks.Operator.{next, finally, globally, until, weak}
use Rattle.logic.proofs.Joining.{Rule, Part, reach_in, keep_in}
use Rattle.logic.proofs.Joining.Part.{at, to, on}
use Rattle.logic.proofs.Meeting.{nowhere}
use Rattle.logic.proofs.Rounds.{rounds-within}
use Rattle.logic.proofs.Rules.{dual, out_of_keep, out_of_reach, F-reach, F-keep, G_rule, F_reach_dual, F_keep_dual, G_dual}
use Rattle.logic.proofs.Sets.{within_itself, complement_twice}
use Rattle.logic.proofs.Steps.{pre-within, pre_dual}

module _ (m : Meaning) (own A B C : Set) where
  H_parts : (U V : Set) (s : ℕ) → s ∈ H m own A B C U V → Part m own A B C U V s
  unfolding H
  H_parts U V s e =
      ⊎_elim
      (λ a. ⊎_elim at (λ b. let r = and_parts (B s) (pre m own U s) b in to r.0 r.1) (or_cases (A s) (B s && pre m own U s) a))
      (λ a. let r = and_parts (C s) (pre m own V s) a in on r.0 r.1) (or_cases (A s || B s && pre m own U s) (C s && pre m own V s) e)

  H-from : (U U' V V' : Set) → Within m.states U U' → Within m.states V V' → (s : ℕ) → Part m own A B C U V s → s ∈ H m own A B C U' V'
  unfolding H
  H-from U U' V V' h k s (at a) = or_left (A s || B s && pre m own U' s) _ (or_left (A s) _ a)
  H-from U U' V V' h k s (to b p) =
      or_left (A s || B s && pre m own U' s) _ (or_right (A s) _ (and_from (B s) _ b (pre-within m own U U' h s p)))
  H-from U U' V V' h k s (on c p) =
      or_right (A s || B s && pre m own U' s) _ (and_from (C s) _ c (pre-within m own V V' k s p))

  pub H_rule : Rule m own A B C (H m own A B C)
  H_rule = record {
    monotone = λ U U' V V' h k s l e. H-from U U' V V' h k s (H_parts U V s e);
    parts = λ U V s l e. H_parts U V s e;
  }

-- H has the largest fixed points of all operators with its parts
module _ (m : Meaning) (own : Set) {A B C : Set} (op : Set → Set → Set) (rule : Rule m own A B C op) where
  op_within : (U U' V V' : Set) → Within m.states U U' → Within m.states V V' → Within m.states (op U V) (H m own A B C U' V')
  op_within U U' V V' h k s l e = H-from m own A B C U U' V V' h k s (rule.parts U V s l e)

  reach-within : Within m.states (reach_in m.states op) (reach_in m.states (H m own A B C))
  reach-within =
      let n = m.states in
      rounds-within n (λ V. lfp n (λ U. op U V)) (λ V. lfp n (λ U. H m own A B C U V))
      (λ V V' k. rounds-within n (λ U. op U V) (λ U. H m own A B C U V') (λ U U' h. op_within U U' V V' h k) empty empty (within_itself n empty) (suc n))
      full full (within_itself n full) (suc n)

  keep-within : Within m.states (keep_in m.states op) (keep_in m.states (H m own A B C))
  keep-within =
      let n = m.states in
      rounds-within n (λ U. gfp n (λ V. op U V)) (λ U. gfp n (λ V. H m own A B C U V))
      (λ U U' h. rounds-within n (λ V. op U V) (λ V. H m own A B C U' V) (λ V V' k. op_within U U' V V' h k) full full (within_itself n full) (suc n))
      empty empty (within_itself n empty) (suc n)

-- and so outside a fixed point is inside that of H with the dual's parts
module _ (m : Meaning) (own : Set) {A B C : Set} (op : Set → Set → Set) (rule : Rule m own A B C (dual op)) where
  keep_without : Within m.states (complement (keep_in m.states op)) (reach_in m.states (H m own A B C))
  keep_without s l e = reach-within m own (dual op) rule s l (out_of_keep m.states op s e)

  reach_without : Within m.states (complement (reach_in m.states op)) (keep_in m.states (H m own A B C))
  reach_without s l e = keep-within m own (dual op) rule s l (out_of_reach m.states op s e)

-- what a search finds, with the steps of own in the place of all steps
abbrev pub found_by : Meaning → Set → Task → Set
found_by m own t =
    cond t.settles (keep_in m.states (H m own t.A t.B t.C))
    (reach_in m.states (H m own t.A t.B t.C))

abbrev pub sought_by : Meaning → Set → Operator → Task → Set
sought_by m own next t = pre m own t.A
sought_by m own finally t = found_by m own t
sought_by m own globally t = found_by m own t
sought_by m own until t = found_by m own t
sought_by m own weak t = found_by m own t

module _ (m : Meaning) (own : Set) where
  until_meet : (left right : Set) → Within m.states (lfp m.states (λ T. F m own right left T)) (found_by m own (task right left empty false))
  until_meet left right = reach-within m own (λ U V. F m own right left U) (F-reach m own right left)

  weak_meet : (r : Reading) (left right : Set) → Within m.states (sat_weak m own (Some r) left right) (found_by m own (meet_weak r left right))
  weak_meet Always left right = reach-within m own (λ U V. F m own right left V) (F-keep m own right left)
  weak_meet EventuallyAlways left right = keep-within m own (G m own right left) (G_rule m own right left)
  weak_meet InfinitelyOften left right = reach-within m own (G m own right left) (G_rule m own right left)
  weak_meet Sometime left right = until_meet full (union right left)

  pub meet_sought : (op : Operator) (r : Reading) (left right : Set) → Within m.states (sat_path m own op (Some r) left right) (sought_by m own op (meet_task op r left right))
  meet_sought next r left right = λ s l e. e
  meet_sought finally r left right = until_meet full left
  meet_sought until r left right = until_meet left right
  meet_sought globally r left right = weak_meet r left empty
  meet_sought weak r left right = weak_meet r left right

  until_break : (left right : Set) → Within m.states (complement (lfp m.states (λ T. F m own right left T))) (found_by m (complement own) (task (neither left right) empty (complement right) false))
  until_break left right = keep_without m (complement own) (λ U V. F m own right left U) (F_reach_dual m own right left)

  -- nothing lies outside full, so there the dual has only a set to be kept
  full_dual : (left right : Set) → Rule m (complement own) empty empty (neither left right) (dual (λ U V. F m own (union right left) full U))
  full_dual left right = record {
    monotone = (F_reach_dual m own (union right left) full).monotone;
    parts = λ U V s l e. go U V s ((F_reach_dual m own (union right left) full).parts U V s l e);
  }
    where
      go : (U V : Set) (s : ℕ) → Part m (complement own) (neither full (union right left)) empty (complement (union right left)) U V s → Part m (complement own) empty empty (neither left right) U V s
      go U V s (at a) = nowhere s (and_parts (not (union right left s)) false a).1
      go U V s (to b p) = nowhere s b
      go U V s (on c p) =
          let r = or_parts (right s) (left s) (not-true (union right left s) c) in
          on (and_from (not (right s)) _ (not_from_false (right s) r.0) (not_from_false (left s) r.1)) p

  weak_break : (r : Reading) (left right : Set) → Within m.states (complement (sat_weak m own (Some r) left right)) (found_by m (complement own) (break_weak r left right))
  weak_break Always left right = keep_without m (complement own) (λ U V. F m own right left V) (F_keep_dual m own right left)
  weak_break EventuallyAlways left right = keep_without m (complement own) (G m own right left) (G_dual m own right left)
  weak_break InfinitelyOften left right = reach_without m (complement own) (G m own right left) (G_dual m own right left)
  weak_break Sometime left right = keep_without m (complement own) (λ U V. F m own (union right left) full U) (full_dual left right)

  pub break_sought : (op : Operator) (r : Reading) (left right : Set) → Within m.states (complement (sat_path m own op (Some r) left right)) (sought_by m (complement own) op (break_task op r left right))
  break_sought next r left right = λ s l e.
      pre_dual m own (complement left) s (subst (λ T. pre m own T s ≡ false) (sym (complement_twice left)) (not-true _ e))
  break_sought finally r left right = until_break full left
  break_sought until r left right = until_break left right
  break_sought globally r left right = weak_break r left empty
  break_sought weak r left right = weak_break r left right
