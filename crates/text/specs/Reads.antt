-- What each part of a line gives, read from the bytes that are left of the text.
use Rattle.std.specs.Prelude.{ℕ, zero, suc, ◌+◌, ◌-◌, ◌*◌, Bool, cond, ◌&&◌, List, [], ◌∷◌, length, Some, None, Ok, Err, Option, Result, ◌==◌, nat_le, nat_lt}
use Rattle.text.specs.declared.fault.ReadFault.{ReadFault}
use Rattle.text.specs.declared.fault.ReadFault.TheVariants.{Form, Range}

-- what is taken, or nothing at the first byte that does not fit; and the bytes then left
abbrev pub Part : Type 0 → Type 0
Part T = Option T × List ℕ

-- what is read, and the bytes then left; or the fault, with the bytes left from its place on
abbrev pub Got : Type 0 → Type 0
Got T = Result (T × List ℕ) ReadFault

-- an answer beside the bytes that are then left
abbrev pub beside : {T : Type 0} → Result T ReadFault → List ℕ → Got T
beside (Ok x) left = Ok (x, left)
beside (Err e) left = Err e

-- what f makes of an answer, beside the bytes that are then left
abbrev pub beside_by : {T U : Type 0} → (T → U) → Result T ReadFault → List ℕ → Got U
beside_by f (Ok x) left = Ok (f x, left)
beside_by f (Err e) left = Err e

-- what the call has changed, where it is answered, beside the bytes that are then left
abbrev pub with : {T U : Type 0} → Result T ReadFault → U → List ℕ → Got U
with (Ok x) u left = Ok (u, left)
with (Err e) u left = Err e

-- one thing after another
abbrev pub and_then : {T U : Type 0} → Got T → (T → List ℕ → Got U) → Got U
and_then (Ok p) f = f p.0 p.1
and_then (Err e) f = Err e

abbrev pub needed : {T : Type 0} → Option T → List ℕ → Got T
needed (Some x) left = Ok (x, left)
needed None left = Err (Form (length left))

-- a part that has to be there
abbrev pub need : {T : Type 0} → Part T → Got T
need p = needed p.0 p.1

abbrev pub head_of : List ℕ → Option ℕ
head_of [] = None
head_of (b ∷ bs) = Some b

abbrev pub begins_with : ℕ → List ℕ → Bool
begins_with c [] = Bool.false
begins_with c (b ∷ bs) = b == c

-- the next byte decides
abbrev pub choose : {T : Type 0} → ℕ → (List ℕ → Got T) → (List ℕ → Got T) → List ℕ → Got T
choose c G H bs = cond (begins_with c bs) (G bs) (H bs)

-- the letters of a word, one after another
abbrev pub word_at : List ℕ → List ℕ → Part (Unit {0})
word_at [] bs = (Some tt, bs)
word_at (c ∷ cs) [] = (None, [])
word_at (c ∷ cs) (b ∷ bs) = cond (b == c) (word_at cs bs) (None, b ∷ bs)

-- zero or more spaces
abbrev pub spaces : List ℕ → List ℕ
spaces [] = []
spaces (b ∷ bs) = cond (b == 32) (spaces bs) (b ∷ bs)

-- one or more spaces
abbrev pub gap_at : List ℕ → Part (Unit {0})
gap_at [] = (None, [])
gap_at (b ∷ bs) = cond (b == 32) (Some tt, spaces bs) (None, b ∷ bs)

abbrev pub is_digit : ℕ → Bool
is_digit b = nat_le 48 b && nat_le b 57

-- k more digits at most, after the number n
abbrev pub digits_at : ℕ → ℕ → List ℕ → Part ℕ
digits_at k n [] = (Some n, [])
digits_at zero n (b ∷ bs) = cond (is_digit b) (None, b ∷ bs) (Some n, b ∷ bs)
digits_at (suc k) n (b ∷ bs) = cond (is_digit b) (digits_at k (n * 10 + (b - 48)) bs) (Some n, b ∷ bs)

-- a number of one to four digits
abbrev pub numeral_at : List ℕ → Part ℕ
numeral_at [] = (None, [])
numeral_at (b ∷ bs) = cond (is_digit b) (digits_at 3 (b - 48) bs) (None, b ∷ bs)

-- a number that passes a test; else the fault is at its first digit
abbrev pub number_at : (ℕ → Bool) → List ℕ → Got ℕ
number_at passes bs = and_then (need (numeral_at bs)) (λ n left. cond (passes n) (Ok (n, left)) (Err (Range (length bs))))

-- from low on, and below the end
abbrev pub within : ℕ → ℕ → ℕ → Bool
within low end n = nat_le low n && nat_lt n end
