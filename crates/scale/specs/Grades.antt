-- What a scale means, and the laws that every scale owes.
use Rattle.std.specs.Prelude.{◌≡◌, ℕ, zero, suc, ◌≤◌, true, List, [], ◌∷◌, length, is_some, Some, None, Option}
use Rattle.scale.specs.Readings.{strength}
use Rattle.scale.specs.declared.reading.Reading.{Reading}
use Rattle.scale.specs.declared.reading.Reading.TheVariants.{Sometime, InfinitelyOften, EventuallyAlways, Always}

-- levels are numbered from 1; a level outside 1 to `levels` has no reading
pub record Grades : Type 0 where
  pub levels : ℕ
  pub reading : ℕ → Option Reading

-- 1 to 4 levels, each with a reading and no other number with one, and no level's reading weaker than a lower level's
pub record Lawful (g : Grades) : Type 0 where
  pub some_level : 1 ≤ g.levels
  pub few_levels : g.levels ≤ 4
  pub present : (l : ℕ) → 1 ≤ l → l ≤ g.levels → is_some (g.reading l) ≡ true
  pub absent : (l : ℕ) → is_some (g.reading l) ≡ true → (1 ≤ l) × (l ≤ g.levels)
  pub rising : (k l : ℕ) (q r : Reading) → k ≤ l → g.reading k ≡ Some q → g.reading l ≡ Some r → strength q ≤ strength r

-- the reading of level l in a list of the readings of levels 1, 2 and so on
abbrev pub reading_at : List Reading → ℕ → Option Reading
reading_at [] l = None
reading_at (r ∷ rs) zero = None
reading_at (r ∷ rs) (suc zero) = Some r
reading_at (r ∷ rs) (suc (suc l)) = reading_at rs (suc l)

abbrev pub graded : List Reading → Grades
graded rs = record { levels = length rs; reading = reading_at rs }

abbrev pub boolean : Grades
boolean = graded (Always ∷ [])

abbrev pub five_valued : Grades
five_valued = graded (Sometime ∷ InfinitelyOften ∷ EventuallyAlways ∷ Always ∷ [])
