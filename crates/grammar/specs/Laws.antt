-- What the reader owes to the language of texts.
use Rattle.std.specs.Prelude.{◌≡◌, ℕ, ◌↔◌, List, [], ◌∷◌, ◌++◌, length, Ok, Err}
use Rattle.text.specs.declared.fault.ReadFault.TheVariants.{Form}
use Rattle.text.specs.Scripts.{Told, script_at, answer_of}
use Rattle.grammar.specs.Scripts.{Script, told}
use Rattle.grammar.specs.Spelling.{Spells}
use Rattle.grammar.specs.Lawful.{Lawful}

-- a text is read exactly where it spells a lawful script, and what is read is that script
abbrev pub ReadWhereLawful : Type 0
ReadWhereLawful =
    (bs : List ℕ) (t : Told) → (answer_of (script_at bs) ≡ Ok t) ↔ ((s : Script) × Spells s bs × Lawful s × (t ≡ told s))

-- some text that spells a script, lawful or not, begins with w
abbrev pub Begins : List ℕ → Type 0
Begins w = (s : Script) × (u : List ℕ) × Spells s (w ++ u)

-- the place with k bytes left is that of the first unfit byte: some well-formed text begins with all that stands before
-- it, and none goes on with the byte there; or the text ends there, and is not well-formed
pub record Unfit (bs : List ℕ) (k : ℕ) : Type 0 where
  pub before : List ℕ
  pub rest : List ℕ
  pub splits : bs ≡ before ++ rest
  pub place : length rest ≡ k
  pub begun : Begins before
  pub dead : (b : ℕ) (more : List ℕ) → rest ≡ b ∷ more → ¬ Begins (before ++ (b ∷ []))
  pub early : rest ≡ [] → (s : Script) → ¬ Spells s before

-- a form fault stands at the first unfit byte
abbrev pub FormFaultWhereUnfit : Type 0
FormFaultWhereUnfit = (bs : List ℕ) (k : ℕ) → answer_of (script_at bs) ≡ Err (Form k) → Unfit bs k
