-- Degrees written one after the other.
use Rattle.std.proofs.Common.{◌≡◌, ℕ, zero, suc, ◌+◌, ◌-◌, ◌<◌, ◌≤◌, List, length, get_or, take, set, sym, refl, ap, ◌∙◌, subst, ⊎_elim, arith}
use Rattle.std.proofs.lemmas.List.{same_lists, get_or_default, get_or-take, length-take-le, places, length-set, get_or-set_same, get_or-set_other}
use borrow.Rule.Slice.PartMut.{put_mid}
use Rattle.std.proofs.lemmas.Bool.{cases_lt}
use Rattle.sheet.specs.Calls.{written}

pub length-written : (bs : List ℕ) (i n : ℕ) (f : ℕ → ℕ) → length (written bs i n f) ≡ length bs
length-written bs i zero f = refl
length-written bs i (suc n) f = length-set (written bs i n f) (i + n) (f n) ∙ length-written bs i n f

pub same-written : (bs : List ℕ) (i n : ℕ) (f h : ℕ → ℕ) → ((k : ℕ) → k < n → f k ≡ h k) → written bs i n f ≡ written bs i n h
same-written bs i zero f h e = refl
same-written bs i (suc n) f h e =
    ap (λ ys. set ys (i + n) (f n)) (same-written bs i n f h (λ k l. e k (omega arith))) ∙ ap (λ d. set (written bs i n h) (i + n) d) (e n (omega arith))

pub read_at : (bs : List ℕ) (i n : ℕ) (f : ℕ → ℕ) (k d : ℕ) → k < n → i + n ≤ length bs → get_or (written bs i n f) (i + k) d ≡ f k
read_at bs i zero f k d l h = absurd (omega arith)
read_at bs i (suc n) f k d l h =
    let same_length = length-written bs i n f in
    ⊎_elim (λ (w : k < n). get_or-set_other (written bs i n f) (i + n) (i + k) (f n) d (λ (q : i + k ≡ i + n). omega arith) ∙ read_at bs i n f k d w (omega arith))
    (λ (w : n ≤ k).
    let q : n ≡ k = omega arith in
    subst (λ k. get_or (set (written bs i n f) (i + n) (f n)) (i + k) d ≡ f k) q (get_or-set_same (written bs i n f) (i + n) (f n) d (omega (arith, same_length))))
    (cases_lt k n)

pub read_back : (bs : List ℕ) (i n : ℕ) (f : ℕ → ℕ) (k : ℕ) → k < n → i + n ≤ length bs → get_or (written bs i n f) (i + k) 0 ≡ f k
read_back bs i n f k l h = read_at bs i n f k 0 l h

-- what stands before the first place or past the last stays
apart : (bs : List ℕ) (i n : ℕ) (f : ℕ → ℕ) (j d : ℕ) → ((k : ℕ) → k < n → j ≡ i + k → ⊥) → get_or (written bs i n f) j d ≡ get_or bs j d
apart bs i zero f j d h = refl
apart bs i (suc n) f j d h = get_or-set_other (written bs i n f) (i + n) j (f n) d (h n (omega arith)) ∙ apart bs i n f j d (λ k l. h k (omega arith))

pub left_before : (bs : List ℕ) (i n : ℕ) (f : ℕ → ℕ) (j : ℕ) → j < i → get_or (written bs i n f) j 0 ≡ get_or bs j 0
left_before bs i n f j h = apart bs i n f j 0 (λ k l q. omega arith)

before : (bs ys : List ℕ) (i k j d : ℕ) → j < i → i ≤ length bs → get_or (put_mid i k bs ys) j d ≡ get_or bs j d
before bs ys i k j d h l = grind (arith, places)

within : (bs ys : List ℕ) (i k j d : ℕ) → j < length ys → i ≤ length bs → get_or (put_mid i k bs ys) (i + j) d ≡ get_or ys j d
within bs ys i k j d h l = grind (arith, places)

after : (bs ys : List ℕ) (i k j d : ℕ) → i + k ≤ j → i + k ≤ length bs → length ys ≡ k → get_or (put_mid i k bs ys) j d ≡ get_or bs j d
after bs ys i k j d h l e = grind (arith, places)

length-put : (bs ys : List ℕ) (i k : ℕ) → i + k ≤ length bs → length ys ≡ k → length (put_mid i k bs ys) ≡ length bs
length-put bs ys i k h e = grind (arith, places)

-- the same written at once
pub copied : (bs ys : List ℕ) (i n k : ℕ) (f : ℕ → ℕ) → i + n ≤ length bs → k ≡ n → length ys ≡ n → ((j d : ℕ) → j < n → get_or ys j d ≡ f j) → put_mid i k bs ys ≡ written bs i n f
copied bs ys i n k f h q l e =
    subst (λ k. put_mid i k bs ys ≡ written bs i n f) (sym q)
    (same_lists _ _ (length-put bs ys i n h l ∙ sym (length-written bs i n f))
    (λ j d w.
    ⊎_elim (λ (z : j < i). before bs ys i n j d z (omega arith) ∙ sym (apart bs i n f j d (λ k l q. omega arith)))
    (λ (z : i ≤ j).
    ⊎_elim (λ (u : j < i + n).
    let here : i + (j - i) ≡ j = omega arith in
    subst (λ j. get_or (put_mid i n bs ys) j d ≡ get_or (written bs i n f) j d) here
    (within bs ys i n (j - i) d (omega arith) (omega arith) ∙ e (j - i) d (omega arith) ∙ sym (read_at bs i n f (j - i) d (omega arith) h)))
    (λ (u : i + n ≤ j). after bs ys i n j d u h l ∙ sym (apart bs i n f j d (λ k l q. omega arith)))
    (cases_lt j (i + n)))
    (cases_lt j i)))

-- what the front of a list has
pub front : (xs ys : List ℕ) (n : ℕ) → ys ≡ take n xs → n ≤ length xs → (length ys ≡ n) × ((j d : ℕ) → j < n → get_or ys j d ≡ get_or xs j 0)
front xs ys n e h = (ap length e ∙ length-take-le n xs h, λ j d l. ap (λ ys. get_or ys j d) e ∙ get_or-take n xs j d l ∙ get_or_default xs j d 0 (omega arith))
