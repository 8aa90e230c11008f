-- How degrees and faults are written, in bytes.
use Rattle.std.specs.Prelude.{ℕ, ◌+◌, List, [], ◌∷◌, ◌++◌, Some, None, codes, decimal, Option}
use Rattle.scale.specs.Digits.{written}
use Rattle.listing.specs.declared.answers.Answer.{Answer}
use Rattle.listing.specs.Faults.{Telling, who}

abbrev pub text_of : Option (List ℕ) → List ℕ
text_of (Some w) = w
text_of None = []

-- the bracket and the line's end
abbrev pub end : List ℕ
end = 41 ∷ 10 ∷ []

-- a space, and what follows it
abbrev pub spaced : List ℕ → List ℕ
spaced w = 32 ∷ w

-- "(degree ASK STATE DIGITS)"
abbrev pub degree_line : ℕ → ℕ → Answer → List ℕ
degree_line levels i a =
    codes "(degree" ++ (spaced (decimal i) ++ (spaced (decimal a.state) ++ (spaced (text_of (written levels a.degree)) ++ end)))

-- a line for each answer, numbered from i on
abbrev pub degree_lines : ℕ → ℕ → List Answer → List ℕ
degree_lines levels i [] = []
degree_lines levels i (a ∷ more) = degree_line levels i a ++ degree_lines levels (i + 1) more

-- "(fault W NUMBER LINE COLUMN VALUE)"
abbrev pub fault_line : Telling → List ℕ
fault_line t =
    codes "(fault" ++ (spaced (who t.number) ++ (spaced (decimal t.number) ++ (spaced (decimal t.line) ++ (spaced (decimal t.column) ++ (spaced (decimal t.value) ++ end)))))
