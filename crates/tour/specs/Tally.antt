-- How many numbers below a bound pass a test.
use Rattle.std.specs.Prelude.{ℕ, zero, suc, ◌+◌, Bool, cond}

abbrev pub tally : ℕ → (ℕ → Bool) → ℕ
tally zero passes = 0
tally (suc n) passes = tally n passes + cond (passes n) 1 0
