-- What each line of a text gives.
use Rattle.std.specs.Prelude.{ℕ, zero, suc, ◌+◌, ◌-◌, Bool, false, cond, ◌||◌, List, [], ◌∷◌, ◌++◌, length, Ok, Err, codes, ◌==◌, nat_le}
use Rattle.model.specs.declared.table.Step.{Step}
use Rattle.model.specs.declared.table.Holding.{Holding}
use Rattle.sheet.specs.declared.row.Row.{Row}
use Rattle.text.specs.declared.fault.ReadFault.TheVariants.{Many}
use Rattle.text.specs.declared.script.Ask.{Ask}
use Rattle.text.specs.declared.script.Source.{Source}
use Rattle.text.specs.declared.script.Source.TheVariants.{Table, Pool}
use Rattle.text.specs.Reads.{Got, and_then, need, choose, word_at, gap_at, numeral_at, number_at, within}
use Rattle.text.specs.Formulas.{formula_at}

-- what the lines after the model's have said so far
pub record Said : Type 0 where
  pub steps : List Step
  pub holdings : List Holding
  pub rows : List Row
  pub asks : List Ask

-- how many more there can be: a table has at most 1,024 steps, 1,024 holdings and 8 asks, one to a line
abbrev pub spare : Said → ℕ
spare h = (1024 - length h.steps) + (1024 - length h.holdings) + (8 - length h.asks)

abbrev pub nothing : Said
nothing = record { steps = []; holdings = []; rows = []; asks = [] }

-- the bracket and the line's end
abbrev pub end_at : List ℕ → Got (Unit {0})
end_at bs = need (word_at (41 ∷ 10 ∷ []) bs)

-- a word and a gap; then the line's bracket, at place, counts: it is too many where the list for it is full
abbrev pub head_at : List ℕ → Bool → ℕ → List ℕ → Got (Unit {0})
head_at word full place bs =
    and_then (need (word_at word bs)) (λ _ b1.
    and_then (need (gap_at b1)) (λ _ b2. cond full (Err (Many place)) (Ok (tt, b2))))

-- two numbers, and the line's end
abbrev pub numbers_at : (ℕ → Bool) → (ℕ → Bool) → List ℕ → Got (ℕ × ℕ)
numbers_at s t bs =
    and_then (number_at s bs) (λ x b1.
    and_then (need (gap_at b1)) (λ _ b2.
    and_then (number_at t b2) (λ y b3.
    and_then (end_at b3) (λ _ b4. Ok ((x, y), b4)))))

-- the rest of a line "(word x y)", after its opening bracket
abbrev pub pair_at : List ℕ → Bool → ℕ → (ℕ → Bool) → (ℕ → Bool) → List ℕ → Got (ℕ × ℕ)
pair_at word full place s t bs = and_then (head_at word full place bs) (λ _. numbers_at s t)

-- a scale has one level or four
abbrev pub is_scale : ℕ → Bool
is_scale d = d == 1 || d == 4

-- "(scale d)"
abbrev pub scale_at : List ℕ → Got ℕ
scale_at bs =
    and_then (need (word_at (codes "(scale") bs)) (λ _ b1.
    and_then (need (gap_at b1)) (λ _ b2.
    and_then (number_at is_scale b2) (λ d b3.
    and_then (end_at b3) (λ _ b4. Ok (d, b4)))))

abbrev pub table_at : List ℕ → Got Source
table_at bs = and_then (pair_at (codes "table") false 0 (within 1 513) (within 0 65) bs) (λ p left. Ok (Table p.0 p.1, left))

abbrev pub pool_at : List ℕ → Got Source
pool_at bs = and_then (pair_at (codes "pool") false 0 (within 1 5) (within 0 2) bs) (λ p left. Ok (Pool p.0 p.1, left))

-- "(table n p)" or "(pool k g)"
abbrev pub source_at : List ℕ → Got Source
source_at bs = and_then (need (word_at (40 ∷ []) bs)) (λ _. choose 116 table_at pool_at)

abbrev pub with_steps : Said → List Step → Said
with_steps h l = record { steps = l; holdings = h.holdings; rows = h.rows; asks = h.asks }

abbrev pub with_holdings : Said → List Holding → Said
with_holdings h l = record { steps = h.steps; holdings = l; rows = h.rows; asks = h.asks }

abbrev pub with_ask : Said → ℕ → List Row → Said
with_ask h s l = record { steps = h.steps; holdings = h.holdings; rows = l; asks = h.asks ++ (record { state = s; row = length l - 1 } ∷ []) }

-- "(step s t)" of a table with n states, after its opening bracket, which is at place
abbrev pub step_at : ℕ → ℕ → List Step → List ℕ → Got (List Step)
step_at n place l bs =
    and_then (pair_at (codes "step") (nat_le 1024 (length l)) place (within 0 n) (within 0 n) bs) (λ p left. Ok (l ++ (record { from = p.0; to = p.1 } ∷ []), left))

-- "(holds p s)" of a table with n states and q propositions
abbrev pub holds_at : ℕ → ℕ → ℕ → List Holding → List ℕ → Got (List Holding)
holds_at n q place l bs =
    and_then (pair_at (codes "holds") (nat_le 1024 (length l)) place (within 0 q) (within 0 n) bs) (λ p left. Ok (l ++ (record { prop = p.0; state = p.1 } ∷ []), left))

-- "(ask s F)"
abbrev pub ask_at : ℕ → Said → List ℕ → Got Said
ask_at place h bs =
    and_then (head_at (codes "ask") (nat_le 8 (length h.asks)) place bs) (λ _ b1.
    and_then (need (numeral_at b1)) (λ s b2.
    and_then (need (gap_at b2)) (λ _ b3.
    and_then (formula_at 16 h.rows b3) (λ l b4.
    and_then (end_at b4) (λ _ b5. Ok (with_ask h s l, b5))))))

-- a line after the model's; steps and holdings are a table's, and come before the first ask
abbrev pub rest_at : Source → ℕ → Said → List ℕ → Got Said
rest_at (Table n q) place h bs =
    cond (length h.asks == 0)
    (choose 115 (λ l. and_then (step_at n place h.steps l) (λ s left. Ok (with_steps h s, left)))
    (choose 104 (λ l. and_then (holds_at n q place h.holdings l) (λ s left. Ok (with_holdings h s, left))) (ask_at place h)) bs)
    (ask_at place h bs)
rest_at (Pool k g) place h bs = ask_at place h bs

abbrev pub line_at : Source → Said → List ℕ → Got Said
line_at m h bs = and_then (need (word_at (40 ∷ []) bs)) (λ _. rest_at m (length bs) h)

-- k lines at most, to the end of the text
abbrev pub lines_at : Source → ℕ → Said → List ℕ → Got Said
lines_at m k h [] = Ok (h, [])
lines_at m zero h (b ∷ bs) = Err (Many 0)
lines_at m (suc k) h (b ∷ bs) = and_then (line_at m h (b ∷ bs)) (lines_at m k)
