-- What the listing call owes to the language of texts.
use Rattle.std.specs.Prelude.{◌≡◌, ℕ, ◌≤◌, ◌↔◌, List, ◌++◌, length, drop, Ok}
use Rattle.grammar.specs.Scripts.{Script, told}
use Rattle.grammar.specs.Spelling.{Spells}
use Rattle.grammar.specs.Lawful.{Lawful}
use Rattle.grammar.specs.Laws.{Unfit}
use Rattle.listing.specs.Faults.{telling}
use Rattle.listing.specs.Listings.{lines_of}
use Rattle.listing.specs.Places.{place_of}
use Rattle.listing.specs.Runs.{then, answers_of}
use Rattle.listing.specs.Writing.{fault_line}

-- the bytes and the number for a script: the degrees that the sheet gives to its asks, or the sheet's refusal
abbrev pub of_script : Script → List ℕ × ℕ
of_script s = lines_of (then (answers_of (told s)) (λ l. Ok (record { levels = s.levels; list = l })))

-- the call on a text wrote so many bytes and answered a number, and the buffer that held one thing then holds another
pub record OfLanguage (text before : List ℕ) (written number : ℕ) (after : List ℕ) : Type 0 where
  -- 15, 16 and 17 come exactly where the text spells no lawful script
  pub accepted : ((s : Script) × Spells s text × Lawful s) ↔ (15 ≤ number → number ≤ 17 → ⊥)
  -- a lawful script that the text spells is the one that is listed
  pub scripted : (s : Script) → Spells s text → Lawful s → (number ≡ (of_script s).1) × (after ≡ (of_script s).0 ++ drop (length (of_script s).0) before)
  -- 15 is told of the first unfit byte
  pub unfit : number ≡ 15 → (k : ℕ) × Unfit text k × (after ≡ fault_line (telling 15 (place_of text k).0 (place_of text k).1 0) ++ drop written before)

-- the same where the buffer and the text are of a length that is not refused
abbrev pub ListedByLanguage : List ℕ → List ℕ → ℕ → ℕ → List ℕ → Type 0
ListedByLanguage text before written number after = length text ≤ 16384 → 256 ≤ length before → OfLanguage text before written number after
