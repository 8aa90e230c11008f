-- The satisfaction set of each kind at each level, and the degree of a row by these sets.
use Rattle.std.specs.Prelude.{ℕ, zero, suc, min, max, Bool, cond, not, ◌&&◌, ◌||◌, Some, None, Option, nat_le, nat_lt}
use Rattle.model.specs.Below.{every}
use Rattle.model.specs.Meaning.{Meaning}
use Rattle.scale.specs.Grades.{Grades}
use Rattle.scale.specs.declared.reading.Reading.{Reading}
use Rattle.scale.specs.declared.reading.Reading.TheVariants.{Sometime, InfinitelyOften, EventuallyAlways, Always}
use Rattle.logic.specs.Sets.{Set, empty, full, union}
use Rattle.logic.specs.Walks.{Operator}
use Rattle.logic.specs.Walks.Operator.{next, finally, globally, until, weak}
use Rattle.logic.specs.FixedPoints.{choosing, pre, F, G, lfp, gfp}
use Rattle.logic.specs.Kinds.{Kind, reach}
use Rattle.logic.specs.Kinds.Kind.{prop, or, and, neg, imp, path}
use Rattle.logic.specs.Formulas.{Formula, kind_of, kind_of_binary, unused}
use Rattle.logic.specs.Formulas.Formula.{unary, binary}

module _ (m : Meaning) (own : Set) where
  abbrev pub sat_weak : Option Reading → Set → Set → Set
  sat_weak None left right = empty
  sat_weak (Some Always) left right = gfp m.states (λ T. F m own right left T)
  sat_weak (Some EventuallyAlways) left right = lfp m.states (λ T1. gfp m.states (λ T2. G m own right left T1 T2))
  sat_weak (Some InfinitelyOften) left right = gfp m.states (λ T2. lfp m.states (λ T1. G m own right left T1 T2))
  sat_weak (Some Sometime) left right = lfp m.states (λ T. F m own (union right left) full T)

  -- from the sets where left and right reach the level, and its reading
  abbrev pub sat_path : Operator → Option Reading → Set → Set → Set
  sat_path next r left right = pre m own left
  sat_path finally r left right = lfp m.states (λ T. F m own left full T)
  sat_path until r left right = lfp m.states (λ T. F m own right left T)
  sat_path globally r left right = sat_weak r left empty
  sat_path weak r left right = sat_weak r left right

-- the highest number from 1 to n that passes, 0 where none does
abbrev pub highest : ℕ → (ℕ → Bool) → ℕ
highest zero passes = 0
highest (suc n) passes = cond (passes (suc n)) (suc n) (highest n passes)

module _ (m : Meaning) (g : Grades) where
  -- where a row reaches level l, from its operands' degrees
  abbrev pub sat : Kind → ℕ → (ℕ → ℕ) → (ℕ → ℕ) → Set
  sat (prop p) l a b = m.holds p
  sat or l a b = λ s. reach a l s || reach b l s
  sat and l a b = λ s. reach a l s && reach b l s
  sat neg l a b = λ s. not (reach a g.levels s)
  sat imp l a b = λ s. every g.levels (λ k. not (reach a (suc k) s) || reach b (suc k) s) || nat_lt l g.levels && reach b l s
  sat (path q op) l a b = sat_path m (choosing q) op (g.reading l) (reach a l) (reach b l)

  -- the degree of a row at a state
  abbrev pub row_degree : Kind → (ℕ → ℕ) → (ℕ → ℕ) → ℕ → ℕ
  row_degree (prop p) a b s = cond (m.holds p s) g.levels 0
  row_degree or a b s = max (a s) (b s)
  row_degree and a b s = min (a s) (b s)
  row_degree neg a b s = cond (nat_le g.levels (a s)) 0 g.levels
  row_degree imp a b s = cond (nat_le (a s) (b s)) g.levels (b s)
  row_degree (path q op) a b s = highest g.levels (λ l. sat (path q op) l a b s)

  -- the degree of a formula at a state
  unfoldable pub degree : Formula → ℕ → ℕ
  degree (Formula.prop p) = row_degree (prop p) unused unused
  degree (unary k f) = row_degree (kind_of k) (degree f) unused
  degree (binary k f h) = row_degree (kind_of_binary k) (degree f) (degree h)
