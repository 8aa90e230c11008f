-- Sets of states.
use Rattle.std.specs.Prelude.{◌≡◌, ℕ, ◌<◌, Bool, true, false, not, ◌||◌}

infix 40 ◌∈◌
abbrev pub Set : Type 0
Set = ℕ → Bool

abbrev pub ◌∈◌ : ℕ → Set → Type 0
s ∈ T = T s ≡ true

abbrev pub empty : Set
empty s = false

abbrev pub full : Set
full s = true

abbrev pub union : Set → Set → Set
union T U s = T s || U s

abbrev pub complement : Set → Set
complement T s = not (T s)

-- of the states below n, those of T are in U
abbrev pub Within : ℕ → Set → Set → Type 0
Within n T U = (s : ℕ) → s < n → s ∈ T → s ∈ U
