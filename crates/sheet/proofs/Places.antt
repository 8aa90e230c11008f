-- Where a row's bytes stand.
use Rattle.std.proofs.Common.{ℕ, ◌+◌, ◌*◌, ◌<◌, ◌≤◌, mul-le-mul_right, suc-mul, arith}

-- a state's place in an earlier row lies before the rows that follow
pub place_below : (r n N k : ℕ) → r < n → k < N → r * N + k < n * N
place_below r n N k h l = omega (arith, mul-le-mul_right N h, suc-mul r N)

-- all of an earlier row lies there
pub row_below : (r n N : ℕ) → r < n → r * N + N ≤ n * N
row_below r n N h = omega (arith, mul-le-mul_right N h, suc-mul r N)
