-- What the engine's loops leave.
use Rattle.std.specs.Prelude.{◌≡◌, ℕ, suc, ◌<◌, ◌≤◌, Bool, false, cond, not, ◌&&◌, ◌==◌}
use Rattle.std.specs.Borrow.{Bor, MutBor}
use Rattle.model.specs.Meaning.{Meaning}
use Rattle.logic.specs.FixedPoints.{F, G, rounds, lfp, gfp}
use Rattle.logic.specs.Sets.{Set, empty, full, Within}
use Rattle.engine.specs.Marks.{members, round_of, before, ours, Rounds, StateSet}

-- the round of a state that never joins
abbrev pub never : ℕ
never = 65535

-- of the states below n, those that joined before round j are those of j rounds of f, for each j up to k
abbrev pub Joins : ℕ → (Set → Set) → Rounds → ℕ → Type 0
Joins n f x k = (s : ℕ) → s < n → (j : ℕ) → j ≤ k → before x j s ≡ rounds f j empty s

-- what round k makes of a state that joined in round r, or never
abbrev pub joined : Bool → ℕ → ℕ → ℕ
joined b k r = cond (r == never && b) k r

-- round k of f makes y of x; did a state join?
pub record Round (n : ℕ) (f : Set → Set) (k : ℕ) (x y : Rounds) (grew : Bool) : Type 0 where
  pub each : (s : ℕ) → s < n → round_of y s ≡ joined (f (before x k) s) k (round_of x s)
  pub still : grew ≡ false → (s : ℕ) → s < n → round_of y s ≡ round_of x s

-- whatever a call with k, as post tells of it, leaves is round k of f
abbrev pub EachRound : ℕ → (Set → Set) → (ℕ → MutBor Rounds → Bool → MutBor Rounds → Type 0) → Type 0
EachRound n f post = (k : ℕ) (x y : MutBor Rounds) (b : Bool) → post k x b y → Round n f k x.now y.now b

-- whatever a call at a state answers, as post tells of it, is f of the states that joined before round k
abbrev pub Ruled : (Set → Set) → ℕ → (ℕ → Bor Rounds → Bool → Type 0) → Type 0
Ruled f k post = (s : ℕ) (x : Bor Rounds) (b : Bool) → post s x b → b ≡ f (before x.now k) s

-- f of more states has more states
abbrev pub Grows : ℕ → (Set → Set) → Type 0
Grows n f = (T U : Set) → Within n T U → Within n (f T) (f U)

-- F from two sets as the code has them
abbrev pub step_f : Meaning → Bool → StateSet → StateSet → Set → Set
step_f m some s1 s2 T = F m (ours some) (members s1) (members s2) T

-- of the states below n, those that have not left before round j are those of j rounds of f from all, for each j up to k
abbrev pub Leaves : ℕ → (Set → Set) → Rounds → ℕ → Type 0
Leaves n f x k = (s : ℕ) → s < n → (j : ℕ) → j ≤ k → not (before x j s) ≡ rounds f j full s

-- a and b make F of s1 and s2 the other side's to reach
abbrev pub Turned : ℕ → (s1 s2 a b : StateSet) → Type 0
Turned n s1 s2 a b = (s : ℕ) → s < n → (members a s ≡ (not (members s1 s) && not (members s2 s))) × (members b s ≡ not (members s1 s))

-- b has the states of T below n
abbrev pub Holds : ℕ → Set → StateSet → Type 0
Holds n T b = (s : ℕ) → s < n → members b s ≡ T s

-- b had other states before, or the same
pub record Applied (n : ℕ) (T : Set) (a b : StateSet) (changed : Bool) : Type 0 where
  pub each : Holds n T b
  pub still : changed ≡ false → Holds n (members a) b

module _ (m : Meaning) (some : Bool) (right left : StateSet) where
  -- the inner fixed point of infinitely often, and of eventually always
  abbrev pub inner : Set → Set
  inner T2 = lfp m.states (λ T1. G m (ours some) (members right) (members left) T1 T2)

  -- the states from which good ones come infinitely often, by the rounds of the last inner fixed point
  pub record Recurring (x : Rounds) : Type 0 where
    pub set : (s : ℕ) → s < m.states → before x (suc m.states) s ≡ gfp m.states inner s
    pub rounds_of : Joins m.states (λ T1. G m (ours some) (members right) (members left) T1 (gfp m.states inner)) x (suc m.states)

  abbrev pub settled : Set → Set
  settled T1 = gfp m.states (λ T2. G m (ours some) (members right) (members left) T1 T2)
