-- What a part of the reader owes to the language that it reads.
use Rattle.std.proofs.Common.{◌≡◌, ℕ, Bool, true, false, List, [], ◌∷◌, ◌++◌, length, Ok, Err}
use Rattle.text.specs.declared.fault.ReadFault.TheVariants.{Form, Range, Many}
use Rattle.text.specs.Reads.{Got, head_of, is_digit}
use Rattle.grammar.specs.Languages.{Language, Then}

-- the words for each value: the well-formed ones (false), or of these the lawful ones (true)
abbrev pub Lang : Type 0 → Type 1
Lang T = Bool → T → Language

-- what only a lawful word has to meet
abbrev pub Strictly : Bool → Type 0 → Type 0
Strictly b P = b ≡ true → P

abbrev pub Nonempty : {T : Type 0} → Lang T → Type 0
Nonempty {T} S = (x : T) × (w : List ℕ) × S false x w

-- some well-formed word begins with w
abbrev Begins : {T : Type 0} → Lang T → Language
Begins {T} S w = (x : T) × (u : List ℕ) × S false x (w ++ u)

-- a word of one language, and then one of the language that its value picks
abbrev pub Both : {T U : Type 0} → Lang T → (T → Lang U) → Lang U
Both {T} S R b z w = (x : T) × Then (S b x) (R x b z) w

-- a fault that is not of form
abbrev pub Other : {T : Type 0} → Got T → Type 0
Other (Ok p) = ⊥
Other (Err (Form k)) = ⊥
Other (Err (Range k)) = Unit {0}
Other (Err (Many k)) = Unit {0}

-- what comes of the bytes bs, and of all that begin alike: after w only the next byte is looked at
pub data Out {T : Type 0} (G : List ℕ → Got T) (S : Lang T) (bs : List ℕ) : Type 0 where
  read : (w r : List ℕ) (x : T) → bs ≡ w ++ r → ((b : Bool) → S b x w) → ((q : List ℕ) → head_of r ≡ head_of q → G (w ++ q) ≡ Ok (x, q)) → Out G S bs
  stop : (w r : List ℕ) → bs ≡ w ++ r → Begins S w → ((q : List ℕ) → head_of r ≡ head_of q → G (w ++ q) ≡ Err (Form (length q))) → Out G S bs
  past : Other (G bs) → Out G S bs

abbrev pub Law : {T : Type 0} → (List ℕ → Got T) → Lang T → Type 0
Law G S = (bs : List ℕ) → Out G S bs

-- read as x with left behind; or a fault that is not of form, and the word need not be lawful
abbrev pub Fine : {T : Type 0} → Bool → Got T → T → Language
Fine b (Ok p) x left = p ≡ (x, left)
Fine b (Err (Form k)) x left = ⊥
Fine b (Err (Range k)) x left = b ≡ false
Fine b (Err (Many k)) x left = b ≡ false

-- each word is read, where F holds of what follows
abbrev pub Full : {T : Type 0} → (List ℕ → Got T) → Lang T → Language → Type 0
Full {T} G S F = (b : Bool) (x : T) (w left : List ℕ) → S b x w → F left → Fine b (G (w ++ left)) x left

-- G reads the words of S, if F holds of what follows; and A then holds of a word with what follows it
pub record Reads {T : Type 0} (G : List ℕ → Got T) (S : Lang T) (A F : Language) : Type 0 where
  pub law : Law G S
  pub full : Full G S F
  pub start : (b : Bool) (x : T) (w left : List ℕ) → S b x w → F left → A (w ++ left)
  pub some : Nonempty S

-- what may stand before or behind a word

abbrev pub Any : Language
Any l = Unit {0}

abbrev pub Nothing : Language
Nothing l = l ≡ []

abbrev pub NoSpace : Language
NoSpace [] = Unit {0}
NoSpace (b ∷ l) = b ≡ 32 → ⊥

abbrev pub NoDigit : Language
NoDigit [] = Unit {0}
NoDigit (b ∷ l) = is_digit b ≡ false
