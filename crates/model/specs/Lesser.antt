-- The lesser of two numbers, either of which may be absent.
use Rattle.std.specs.Prelude.{ℕ, min, Some, None, Option}

abbrev pub lesser_of : Option ℕ → Option ℕ → Option ℕ
lesser_of None y = y
lesser_of (Some a) None = Some a
lesser_of (Some a) (Some b) = Some (min a b)
