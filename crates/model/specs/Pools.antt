-- What a pool of frame buffers means. Two capture threads, A and B, take buffers and give them back.
use Rattle.std.specs.Prelude.{ℕ, ◌+◌, ◌/◌, ◌%◌, ◌^◌, Bool, cond, not, ◌&&◌, ◌||◌, ◌==◌, nat_eq, nat_le}
use Rattle.model.specs.Below.{some, every}
use Rattle.model.specs.Limits.{limited}
use Rattle.model.specs.Meaning.{Meaning}
use Rattle.model.specs.declared.pool.Thread.{Thread}
use Rattle.model.specs.declared.pool.Thread.TheVariants.{A, B}

-- who holds buffer i in state s, the base-4 digit of weight 4^i: 0 nobody, 1 thread A, 2 thread B, 3 both, a torn frame
abbrev pub digit : ℕ → ℕ → ℕ
digit i s = s / 4 ^ i % 4

-- what a thread adds to the digit of a buffer that it holds
abbrev pub share : Thread → ℕ
share A = 1
share B = 2

-- the thread holds a buffer of digit d
abbrev pub holder : Thread → ℕ → Bool
holder A d = d == 1 || d == 3
holder B d = d == 2 || d == 3

-- from digit d to digit e the thread gives back the buffer that it holds, or takes the buffer that it does not
abbrev pub moves : Thread → ℕ → ℕ → Bool
moves x d e = cond (holder x d) (e + share x == d) (e == d + share x)

module _ (k g : ℕ) where
  -- of the k buffers, all but buffer i stay as they are
  abbrev pub others : ℕ → ℕ → ℕ → Bool
  others i s t = every k (λ j. (j == i) || digit j s == digit j t)

  -- with the guard, g = 1, a step may not tear the frame in buffer i
  abbrev pub guarded : ℕ → ℕ → Bool
  guarded i t = not (g == 1 && digit i t == 3)

  -- the thread's move with buffer i leads from s to t
  abbrev pub leads : Thread → ℕ → ℕ → ℕ → Bool
  leads x i s t = others i s t && (moves x (digit i s) (digit i t) && guarded i t)

  -- 1 to 6 buffers, with the guard or without
  abbrev pub lawful : Bool
  lawful = nat_le 1 k && nat_le k 6 && nat_le g 1

  -- proposition 0: some frame is torn; proposition 1: some buffer is free
  abbrev pub shows : ℕ → ℕ → Bool
  shows p s = some k (λ i. nat_eq (digit i s) (cond (p == 0) 3 0))

  abbrev pub pooled : Meaning
  pooled = limited (cond lawful (4 ^ k) 0) (cond lawful 2 0) (λ s t. some k (λ i. leads A i s t || leads B i s t)) shows
