-- Languages over bytes, and the smallest parts of a text.
use Rattle.std.specs.Prelude.{◌≡◌, ℕ, zero, suc, ◌+◌, ◌-◌, ◌*◌, true, List, [], ◌∷◌, ◌++◌}
use Rattle.text.specs.Reads.{is_digit}

abbrev pub Language : Type 1
Language = List ℕ → Type 0

-- a word of the first language, then one of the second
abbrev pub Then : Language → Language → Language
Then L M w = (u : List ℕ) × (v : List ℕ) × (w ≡ u ++ v) × L u × M v

-- this word alone
abbrev pub Word : List ℕ → Language
Word cs w = w ≡ cs

-- a word of the language of each item, in their order
abbrev pub Each : {T : Type 0} → (T → Language) → List T → Language
Each L [] = Word []
Each L (x ∷ xs) = Then (L x) (Each L xs)

abbrev pub Spaces : Language
Spaces [] = Unit {0}
Spaces (b ∷ bs) = (b ≡ 32) × Spaces bs

-- one or more spaces
abbrev pub Gap : Language
Gap [] = ⊥
Gap (b ∷ bs) = (b ≡ 32) × Spaces bs

-- k more digits at most, which turn the number n into m
abbrev pub Digits : ℕ → ℕ → ℕ → Language
Digits k n m [] = m ≡ n
Digits zero n m (b ∷ w) = ⊥
Digits (suc k) n m (b ∷ w) = (is_digit b ≡ true) × Digits k (n * 10 + (b - 48)) m w

-- one to four digits that write m
abbrev pub Numeral : ℕ → Language
Numeral m [] = ⊥
Numeral m (b ∷ w) = (is_digit b ≡ true) × Digits 3 (b - 48) m w
