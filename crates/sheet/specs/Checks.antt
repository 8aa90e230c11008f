-- What `enter` knows of a row that it reads.
use Rattle.std.specs.Prelude.{◌≡◌, ℕ, ◌+◌, ◌*◌, ◌<◌, ◌≤◌, ◌↔◌, List, length, ◌≢◌}
use Rattle.logic.specs.Sets.{◌∈◌}
use Rattle.logic.specs.Theorems.{OnScale}
use Rattle.model.specs.Meaning.{Meaning}
use Rattle.model.specs.Walkable.{Total}
use Rattle.scale.specs.Grades.{Grades}
use Rattle.sheet.specs.Calls.{byte_at, first_of, second_of, reaches}
use Rattle.sheet.specs.Kinds.{operands_of}
use Rattle.sheet.specs.Over.{Fits}
use Rattle.sheet.specs.States.{State, seen}
use Rattle.sheet.specs.Walking.{record_of}
use Rattle.sheet.specs.declared.row.Row.{Row}
use Rattle.sheet.specs.declared.sheet.Sheet.{Sheet}

-- it has a kind, and its operands are earlier rows
pub record Earlier (x : Sheet) (r : Row) : Type 0 where
  pub some_kind : 1 ≤ r.kind
  pub last_kind : r.kind ≤ 15
  pub first : (r.kind ≢ 1) → r.a < x.rows
  pub second : operands_of r.kind ≡ 2 → r.b < x.rows

-- there is room for one more row in buffers of k records and l bytes
pub record Room (x : Sheet) (k l : ℕ) : Type 0 where
  pub few : x.rows < 128
  pub records : x.rows < k
  pub bytes : (x.rows + 1) * x.size.states ≤ l

-- a row can be entered
pub record Ready (m : Meaning) (g : Grades) (x : Sheet) (rs : List Row) (bs : List ℕ) (r : Row) : Type 0 where
  pub fits : Fits m g x
  pub total : Total m
  pub room : Room x (length rs) (length bs)
  pub earlier : Earlier x r
  pub first : OnScale m g (first_of (seen x rs bs) r)
  pub second : OnScale m g (second_of (seen x rs bs) r)

-- the row r reaches each level exactly where the satisfaction set has the state
abbrev pub RowReaches : Meaning → Grades → State → Row → State → ℕ → Type 0
RowReaches m g s x after r =
    (l k : ℕ) → 1 ≤ l → l ≤ g.levels → k < m.states → (l ≤ byte_at after r k) ↔ (k ∈ reaches m g s x l)

-- a walk can be looked for: for the row r, the state k and the level l, with a walk buffer of n numbers
pub record ReadyToWalk (m : Meaning) (g : Grades) (x : Sheet) (rs : List Row) (bs : List ℕ) (r k l n : ℕ) : Type 0 where
  pub fits : Fits m g x
  pub total : Total m
  pub row : r < x.rows
  pub state : k < x.size.states
  pub records : x.rows ≤ length rs
  pub bytes : x.rows * x.size.states ≤ length bs
  pub path : 6 ≤ (record_of (seen x rs bs) r).kind
  pub earlier : Earlier x (record_of (seen x rs bs) r)
  pub some_level : 1 ≤ l
  pub last_level : l ≤ x.levels
  pub room : 2 * x.size.states ≤ n
