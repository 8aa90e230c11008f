-- Numbers of one to four digits, and those that pass a test.
use Rattle.std.proofs.Common.{◌≡◌, ℕ, zero, suc, ◌+◌, ◌-◌, ◌*◌, Bool, true, false, cond, List, [], ◌∷◌, ◌++◌, length, Some, None, Ok, Err, sym, refl, ap, ◌∙◌, subst, ⊎_elim}
use Rattle.std.proofs.lemmas.Bool.{cond-true, cond-false, cases_Bool, false≢true}
use Rattle.text.specs.declared.fault.ReadFault.TheVariants.{Range}
use Rattle.text.specs.Reads.{Got, Part, and_then, need, digits_at, numeral_at, number_at, is_digit}
use Rattle.grammar.specs.Languages.{Digits, Numeral}
use Rattle.grammar.proofs.Readings.{Lang, Strictly, Other, Out, read, stop, past, Law, Fine, Full, Reads, NoSpace, NoDigit}
use Rattle.grammar.proofs.Binds.{lenient, one_byte}
use Rattle.grammar.proofs.Words.{at_end, at_byte}

-- the digits after the first

abbrev digits_read : ℕ → ℕ → List ℕ → Got ℕ
digits_read k n l = need (digits_at k n l)

abbrev Tails : ℕ → ℕ → Lang ℕ
Tails k n b = Digits k n

digits_on : (k n b : ℕ) (q : List ℕ) → is_digit b ≡ true → digits_at (suc k) n (b ∷ q) ≡ digits_at k (n * 10 + (b - 48)) q
digits_on k n b q d = cond-true (is_digit b) _ _ d

digits_off : (k n b : ℕ) → is_digit b ≡ false → (q : List ℕ) → digits_at k n (b ∷ q) ≡ (Some n, b ∷ q)
digits_off zero n b d q = cond-false (is_digit b) _ _ d
digits_off (suc k) n b d q = cond-false (is_digit b) _ _ d

ends : (k n b : ℕ) (bs : List ℕ) → is_digit b ≡ false → Out (digits_read k n) (Tails k n) (b ∷ bs)
ends k n b bs d = read [] (b ∷ bs) n refl (λ t. refl) (at_byte (digits_at k n) (Some n) b (digits_off k n b d))

law_digits : (k n : ℕ) → Law (digits_read k n) (Tails k n)
law_digits k n [] = read [] [] n refl (λ t. refl) (at_end (digits_at k n) (Some n) refl)
law_digits zero n (b ∷ bs) =
    ⊎_elim (λ d. stop [] (b ∷ bs) refl (n, [], refl) (at_byte (digits_at 0 n) None b (λ t. cond-true (is_digit b) _ _ d))) (ends 0 n b bs) (cases_Bool (is_digit b))
law_digits (suc k) n (b ∷ bs) = ⊎_elim (λ d. on d (law_digits k (n * 10 + (b - 48)) bs)) (ends (suc k) n b bs) (cases_Bool (is_digit b))
  where
    on : is_digit b ≡ true → Out (digits_read k (n * 10 + (b - 48))) (Tails k (n * 10 + (b - 48))) bs → Out (digits_read (suc k) n) (Tails (suc k) n) (b ∷ bs)
    on d = one_byte b (λ q. ap need (digits_on k n b q d)) (λ t x w s. (d, s))

digits_end : (k n m : ℕ) (w left : List ℕ) → Digits k n m w → NoDigit left → digits_at k n (w ++ left) ≡ (Some m, left)
digits_end k n m [] [] s h = ap (λ y. (Some y, [])) (sym s)
digits_end k n m [] (b ∷ left) s h = digits_off k n b h left ∙ ap (λ y. (Some y, b ∷ left)) (sym s)
digits_end zero n m (b ∷ w) left s h = absurd s
digits_end (suc k) n m (b ∷ w) left s h = digits_on k n b (w ++ left) s.0 ∙ digits_end k (n * 10 + (b - 48)) m w left s.1 h

-- a number

abbrev numeral_read : List ℕ → Got ℕ
numeral_read l = need (numeral_at l)

abbrev pub Numerals : Lang ℕ
Numerals b = Numeral

numeral_on : (b : ℕ) (q : List ℕ) → is_digit b ≡ true → numeral_at (b ∷ q) ≡ digits_at 3 (b - 48) q
numeral_on b q d = cond-true (is_digit b) _ _ d

law_numeral : Law numeral_read Numerals
law_numeral [] = stop [] [] refl (0, 48 ∷ [], (refl, refl)) (at_end numeral_at None refl)
law_numeral (b ∷ bs) = ⊎_elim (λ d. on d (law_digits 3 (b - 48) bs)) off (cases_Bool (is_digit b))
  where
    on : is_digit b ≡ true → Out (digits_read 3 (b - 48)) (Tails 3 (b - 48)) bs → Out numeral_read Numerals (b ∷ bs)
    on d = one_byte b (λ q. ap need (numeral_on b q d)) (λ t x w s. (d, s))

    off : is_digit b ≡ false → Out numeral_read Numerals (b ∷ bs)
    off d = stop [] (b ∷ bs) refl (0, 48 ∷ [], (refl, refl)) (at_byte numeral_at None b (λ t. cond-false (is_digit b) _ _ d))

numeral_end : (m : ℕ) (w left : List ℕ) → Numeral m w → NoDigit left → numeral_at (w ++ left) ≡ (Some m, left)
numeral_end m [] left s h = absurd s
numeral_end m (b ∷ w) left s h = numeral_on b (w ++ left) s.0 ∙ digits_end 3 (b - 48) m w left s.1 h

numeral_first : (m : ℕ) (w left : List ℕ) → Numeral m w → NoSpace (w ++ left)
numeral_first m [] left d = absurd d
numeral_first m (b ∷ w) left d = λ e. false≢true (sym (ap is_digit e) ∙ d.0)

pub numeral_reads : Reads numeral_read Numerals NoSpace NoDigit
numeral_reads =
    record {
      law = law_numeral;
      full = λ b m w left s h. subst (λ p. Fine b (need p) m left) (sym (numeral_end m w left s h)) refl;
      start = λ b m w left s h. numeral_first m w left s;
      some = (0, 48 ∷ [], (refl, refl));
    }

-- a number that passes a test

module _ (passes : ℕ → Bool) where
  abbrev pub Passing : Lang ℕ
  Passing b m w = Numeral m w × Strictly b (passes m ≡ true)

  abbrev tested : List ℕ → Got ℕ → Got ℕ
  tested l g = and_then g (λ n left. cond (passes n) (Ok (n, left)) (Err (Range (length l))))

  never : {T : Type 0} (p : Part T) → Other (need p) → ⊥
  never (None, l) h = h
  never (Some x, l) h = h

  law_number : Law (number_at passes) Passing
  law_number bs = from (law_numeral bs)
    where
      from : Out numeral_read Numerals bs → Out (number_at passes) Passing bs
      from (read w r m e s f) =
          ⊎_elim
          (λ t. read w r m e (λ b. (s b, λ _. t)) (λ q h. ap (tested (w ++ q)) (f q h) ∙ cond-true (passes m) _ _ t))
          (λ t. past (subst Other (sym (ap (number_at passes) e ∙ ap (tested (w ++ r)) (f r refl) ∙ cond-false (passes m) _ _ t)) tt))
          (cases_Bool (passes m))
      from (stop w r e (m, u, s) f) = stop w r e (m, u, (s, λ t. absurd (false≢true t))) (λ q h. ap (tested (w ++ q)) (f q h))
      from (past o) = absurd (never (numeral_at bs) o)

  full-number : Full (number_at passes) Passing NoDigit
  full-number b m w left (s, ok) h =
      subst (λ g. Fine b g m left) (sym (ap (λ p. tested (w ++ left) (need p)) (numeral_end m w left s h)))
      (⊎_elim
      (λ t. subst (λ g. Fine b g m left) (sym (cond-true (passes m) _ _ t)) refl)
      (λ t. subst (λ g. Fine b g m left) (sym (cond-false (passes m) _ _ t)) (lenient b (passes m) ok t))
      (cases_Bool (passes m)))

  pub number_reads : Reads (number_at passes) Passing NoSpace NoDigit
  number_reads =
      record {
        law = law_number;
        full = full-number;
        start = λ b m w left (s, ok) h. numeral_first m w left s;
        some = (0, 48 ∷ [], ((refl, refl), λ t. absurd (false≢true t)));
      }
