-- Where in a text a byte stands: line and column from 1.
use Rattle.std.specs.Prelude.{ℕ, ◌+◌, ◌-◌, cond, List, [], ◌∷◌, length, take, ◌==◌}

-- the place that follows these bytes, from a place on
abbrev pub place_from : ℕ → ℕ → List ℕ → ℕ × ℕ
place_from line column [] = (line, column)
place_from line column (b ∷ bs) = cond (b == 10) (place_from (line + 1) 1 bs) (place_from line (column + 1) bs)

abbrev pub place_after : List ℕ → ℕ × ℕ
place_after bs = place_from 1 1 bs

-- the place in a text from which so many bytes are left
abbrev pub place_of : List ℕ → ℕ → ℕ × ℕ
place_of text left = place_after (take (length text - left) text)
