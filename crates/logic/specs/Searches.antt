-- What a search for one endless walk looks for, whatever row it is for.
use Rattle.std.specs.Prelude.{◌≡◌, ℕ, suc, ◌+◌, ◌<◌, ◌≤◌, Bool, true, false, cond, not, ◌&&◌, ◌||◌, Some, nat_lt}
use Rattle.model.specs.Meaning.{Meaning, Lawful}
use Rattle.model.specs.Walkable.{Total}
use Rattle.scale.specs.declared.reading.Reading.{Reading}
use Rattle.scale.specs.declared.reading.Reading.TheVariants.{Sometime, InfinitelyOften, EventuallyAlways, Always}
use Rattle.logic.specs.FixedPoints.{pre, rounds, lfp, gfp}
use Rattle.logic.specs.Sets.{Set, ◌∈◌, empty, full, union, complement}
use Rattle.logic.specs.Walks.{Walk, Operator, Meets, Quantifier}
use Rattle.logic.specs.Walks.Operator.{next, finally, globally, until, weak}
use Rattle.logic.specs.Walks.Quantifier.{some_walk, every_walk}

-- the states of A, those of B with a step into U, and those of C with a step into V
unfoldable pub H : Meaning → Set → Set → Set → Set → Set → Set → Set
H m own A B C U V s = A s || B s && pre m own U s || C s && pre m own V s

-- keep to B or C until A is seen, and have C, or have seen A, again and again, or from some position on
pub record Task : Type 0 where
  pub A : Set
  pub B : Set
  pub C : Set
  pub settles : Bool

abbrev pub task : Set → Set → Set → Bool → Task
task a b c k = record { A = a; B = b; C = c; settles = k }

-- the states from which some walk does it
abbrev pub found : Meaning → Task → Set
found m t =
    cond t.settles (lfp m.states (λ U. gfp m.states (λ V. H m full t.A t.B t.C U V)))
    (gfp m.states (λ V. lfp m.states (λ U. H m full t.A t.B t.C U V)))

abbrev pub neither : Set → Set → Set
neither left right s = not (right s) && not (left s)

-- to meet a level with W
abbrev pub meet_weak : Reading → Set → Set → Task
meet_weak Sometime left right = task (union right left) full empty false
meet_weak InfinitelyOften left right = task right full left false
meet_weak EventuallyAlways left right = task right full left true
meet_weak Always left right = task right empty left false

-- to break it
abbrev pub break_weak : Reading → Set → Set → Task
break_weak Sometime left right = task empty empty (neither left right) false
break_weak InfinitelyOften left right = task empty (complement right) (neither left right) true
break_weak EventuallyAlways left right = task empty (complement right) (neither left right) false
break_weak Always left right = task (neither left right) (complement right) empty false

-- to meet or to break a level with F, G, U or W; X looks one step ahead only, and has a set in the place of A alone
abbrev pub meet_task : Operator → Reading → Set → Set → Task
meet_task next r left right = task left empty empty false
meet_task finally r left right = task left full empty false
meet_task globally r left right = meet_weak r left empty
meet_task until r left right = task right left empty false
meet_task weak r left right = meet_weak r left right

abbrev pub break_task : Operator → Reading → Set → Set → Task
break_task next r left right = task (complement left) empty empty false
break_task finally r left right = task (neither full left) empty (complement left) false
break_task globally r left right = break_weak r left empty
break_task until r left right = task (neither left right) empty (complement right) false
break_task weak r left right = break_weak r left right

-- what an E row's walk is to show, and an A row's
abbrev pub task_of : Quantifier → Operator → Reading → Set → Set → Task
task_of some_walk op r left right = meet_task op r left right
task_of every_walk op r left right = break_task op r left right

-- the walk meets the level (E), or breaks it (A)
abbrev pub Shows : Quantifier → Operator → Reading → Set → Set → (ℕ → ℕ) → Type 0
Shows some_walk op r left right π = Meets op (Some r) left right π
Shows every_walk op r left right π = ¬ Meets op (Some r) left right π

-- of the states below n, those with a number below j are those of j rounds of f, for each j up to n + 1
abbrev pub Joined : ℕ → (Set → Set) → (ℕ → ℕ) → Type 0
Joined n f ρ = (s : ℕ) → s < n → (j : ℕ) → j ≤ suc n → nat_lt (ρ s) j ≡ rounds f j empty s

-- the operator by whose rounds a walk is guided
abbrev pub guide_of : Meaning → Task → Set → Set
guide_of m t U =
    cond t.settles (gfp m.states (λ V. H m full t.A t.B t.C U V))
    (H m full t.A t.B t.C U (gfp m.states (λ V. lfp m.states (λ U. H m full t.A t.B t.C U V))))

-- the states from which the search finds a walk
abbrev pub sought : Meaning → Operator → Task → Set
sought m next t = pre m full t.A
sought m finally t = found m t
sought m globally t = found m t
sought m until t = found m t
sought m weak t = found m t

-- ρ guides the search: by the round in which each state joins; for X, 0 for the states of A
abbrev pub Guides : Meaning → Operator → Task → (ℕ → ℕ) → Type 0
Guides m next t ρ = (s : ℕ) → s < m.states → nat_lt (ρ s) 1 ≡ t.A s
Guides m finally t ρ = Joined m.states (guide_of m t) ρ
Guides m globally t ρ = Joined m.states (guide_of m t) ρ
Guides m until t ρ = Joined m.states (guide_of m t) ρ
Guides m weak t ρ = Joined m.states (guide_of m t) ρ

-- a walk from s each step of which leads to a least ρ, and which comes round
pub record Followed (m : Meaning) (ρ : ℕ → ℕ) (s : ℕ) (π : ℕ → ℕ) : Type 0 where
  pub walk : Walk m s π
  pub least : (j t : ℕ) → m.step (π j) t ≡ true → ρ (π (suc j)) ≤ ρ t
  pub from : ℕ
  pub period : ℕ
  pub round : (j : ℕ) → from ≤ j → π (suc period + j) ≡ π j

-- where the search finds a state, any walk that is so guided meets or breaks the level, as the row asks
abbrev pub SearchFinds : Type 0
SearchFinds =
    (m : Meaning) → Lawful m → Total m → (q : Quantifier) (op : Operator) (r : Reading) (left right : Set) (ρ : ℕ → ℕ) →
    Guides m op (task_of q op r left right) ρ → (s : ℕ) → s < m.states → s ∈ sought m op (task_of q op r left right) →
    (π : ℕ → ℕ) → Followed m ρ s π → Shows q op r left right π

-- where it does not, no walk does
abbrev pub SearchMisses : Type 0
SearchMisses =
    (m : Meaning) → Lawful m → Total m → (q : Quantifier) (op : Operator) (r : Reading) (left right : Set) →
    (s : ℕ) → s < m.states → sought m op (task_of q op r left right) s ≡ false → (π : ℕ → ℕ) → Walk m s π → ¬ Shows q op r left right π
