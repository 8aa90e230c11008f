-- Ranges and counts: which of the spelled scripts are lawful.
use Rattle.std.specs.Prelude.{◌≡◌, ℕ, ◌+◌, ◌<◌, ◌≤◌, ◌⊎◌, List, [], ◌∷◌, length}
use Rattle.text.specs.declared.script.Source.{Source}
use Rattle.text.specs.declared.script.Source.TheVariants.{Table, Pool}
use Rattle.grammar.specs.Scripts.{Script, Line, step, holds, Question, size, depth, steps_of, holdings_of}

abbrev pub AllOf : {T : Type 0} → (T → Type 0) → List T → Type 0
AllOf P [] = Unit {0}
AllOf P (x ∷ xs) = P x × AllOf P xs

-- a table has 1 to 512 states and at most 64 propositions, a pool 1 to 4 buffers and a guard of 0 or 1
abbrev pub SourceInRange : Source → Type 0
SourceInRange (Table n p) = (1 ≤ n) × (n ≤ 512) × (p ≤ 64)
SourceInRange (Pool k g) = (1 ≤ k) × (k ≤ 4) × (g ≤ 1)

-- a line names states and propositions that the table has
abbrev pub LineInRange : Source → Line → Type 0
LineInRange (Table n p) (step s t) = (s < n) × (t < n)
LineInRange (Table n p) (holds q s) = (q < p) × (s < n)
LineInRange (Pool k g) l = ⊥

-- the brackets of all formulas
abbrev pub total : List Question → ℕ
total [] = 0
total (q ∷ qs) = size q.formula + total qs

pub record Lawful (s : Script) : Type 0 where
  pub levels : (s.levels ≡ 1) ⊎ (s.levels ≡ 4)
  pub source : SourceInRange s.source
  pub lines : AllOf (LineInRange s.source) s.lines
  pub steps : length (steps_of s.lines) ≤ 1024
  pub holdings : length (holdings_of s.lines) ≤ 1024
  pub asks : length s.asks ≤ 8
  pub rows : total s.asks ≤ 32
  pub nesting : AllOf (λ q. depth q.formula ≤ 16) s.asks
