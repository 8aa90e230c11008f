-- Lines that begin with a word and a gap, and lines of a word and two numbers.
use Rattle.std.proofs.Common.{◌≡◌, ℕ, ◌<◌, ◌≤◌, Bool, true, false, cond, eqb, ltb, leb, List, [], ◌∷◌, ◌++◌, length, Ok, Err, sym, refl, ap, ◌∙◌, subst}
use Rattle.std.proofs.lemmas.Bool.{true≢false, and_parts, and_from, leb-true, le-leb, ltb-true, lt-ltb}
use Rattle.text.specs.declared.fault.ReadFault.TheVariants.{Form, Many}
use Rattle.text.specs.Reads.{Got, and_then, need, word_at, gap_at, within, begins_with}
use Rattle.text.specs.Lines.{end_at, head_at, pair_at}
use Rattle.grammar.specs.Languages.{Language, Then, Word, Gap}
use Rattle.grammar.specs.Spelling.{End, PairSpelled}
use Rattle.grammar.proofs.Readings.{Lang, Strictly, Both, Other, Out, read, stop, past, Law, Reads, Any, NoSpace, NoDigit}
use Rattle.grammar.proofs.Binds.{clash, bind, then, value, unless, reads_map, reads_same}
use Rattle.grammar.proofs.Words.{word_reads, gap_reads}
use Rattle.grammar.proofs.Numbers.{Passing, number_reads}

pub end_reads : (A : Language) → ((left : List ℕ) → A (41 ∷ 10 ∷ left)) → Reads end_at (λ _ _. End) A Any
end_reads A = word_reads A (41 ∷ 10 ∷ [])

-- what a word begins with
pub first_letter : {L : Language} (c d : ℕ) (cs w left : List ℕ) → Then (Word (d ∷ cs)) L w → begins_with c (w ++ left) ≡ eqb d c
first_letter c d cs w left (u, v, e, s, l) = subst (λ y. begins_with c (y ++ left) ≡ eqb d c) (sym (e ∙ ap (λ y. y ++ v) s)) refl

-- a bracket, and a word behind it

pub bracket_on : {L : Language} (cs w : List ℕ) → Then (Word (40 ∷ [])) (Then (Word cs) L) w → Then (Word (40 ∷ cs)) L w
bracket_on cs w (u, v, e, s, (u2, v2, e2, s2, l)) = (40 ∷ cs, v2, e ∙ (λ i. s i ++ e2 i) ∙ ap (λ y. 40 ∷ (y ++ v2)) s2, refl, l)

pub bracket_off : {L : Language} (cs w : List ℕ) → Then (Word (40 ∷ cs)) L w → Then (Word (40 ∷ [])) (Then (Word cs) L) w
bracket_off cs w (u, v, e, s, l) = (40 ∷ [], cs ++ v, e ∙ ap (λ y. y ++ v) s, refl, (cs, v, refl, refl, l))

-- a word, a gap and what K reads: too many, at place, where the list for it is full

module _ {U : Type 0} (K : List ℕ → Got U) where
  abbrev opened : List ℕ → Bool → ℕ → List ℕ → Got U
  opened word full place l = and_then (need (word_at word l)) (λ _ b1. and_then (need (gap_at b1)) (λ _ b2. cond full (Err (Many place)) (K b2)))

  abbrev counted : Bool → ℕ → Unit {0} → List ℕ → Got (Unit {0})
  counted full place _ l = cond full (Err (Many place)) (Ok (tt, l))

  after_gap : (full : Bool) (place : ℕ) (g : Got (Unit {0})) → and_then (and_then g (counted full place)) (λ _. K) ≡ and_then g (λ _ l. cond full (Err (Many place)) (K l))
  after_gap true place (Ok p) = refl
  after_gap false place (Ok p) = refl
  after_gap full place (Err e) = refl

  head_opened : (word : List ℕ) (full : Bool) (place : ℕ) (l : List ℕ) → and_then (head_at word full place l) (λ _. K) ≡ opened word full place l
  head_opened word full place l = from (need (word_at word l))
    where
      from : (g : Got (Unit {0})) → and_then (and_then g (λ _ b1. and_then (need (gap_at b1)) (counted full place))) (λ _. K) ≡ and_then g (λ _ b1. and_then (need (gap_at b1)) (λ _ l. cond full (Err (Many place)) (K l)))
      from (Ok p) = after_gap full place (need (gap_at p.1))
      from (Err e) = refl

-- a reader that ends in too many has the same faults at every place, but for that one
module _ {U : Type 0} (Q : Got U → Type 0) (place other : ℕ) (more : Q (Err (Many place)) → Q (Err (Many other))) where
  ended : (g : Got (Unit {0})) → Q (and_then g (λ _ _. Err (Many place))) → Q (and_then g (λ _ _. Err (Many other)))
  ended (Ok p) h = more h
  ended (Err e) h = h

  ended_twice : (g : Got (Unit {0})) (P : List ℕ → Got (Unit {0})) → Q (and_then g (λ _ l. and_then (P l) (λ _ _. Err (Many place)))) → Q (and_then g (λ _ l. and_then (P l) (λ _ _. Err (Many other))))
  ended_twice (Ok p) P h = ended (P p.1) h
  ended_twice (Err e) P h = h

-- the word, a gap and a word of S; lawful only where the list is not full
abbrev pub Headed : {U : Type 0} → List ℕ → Bool → Lang U → Lang U
Headed word full S b z w = Then (Word word) (Then Gap (S b z)) w × Strictly b (full ≡ false)

module _ {U : Type 0} {K : List ℕ → Got U} {S : Lang U} {F : Language} (reads : Reads K S NoSpace F) (word : List ℕ) where
  opened_reads : (full : Bool) (place : ℕ) → Reads (opened K word full place) (Headed word full S) Any F
  opened_reads full place =
      reads_map
      (λ b z w (u, v, e, s, (u2, v2, e2, s2, (t, room))). ((u, v, e, s, (u2, v2, e2, s2, t)), room))
      (λ b z w ((u, v, e, s, (u2, v2, e2, s2, t)), room). (u, v, e, s, (u2, v2, e2, s2, (t, room))))
      (then (word_reads Any word (λ _. tt)) (then (gap_reads Any (λ _. tt)) (unless full place reads)))

  -- the place may depend on the bytes
  law_opened : (full : Bool) (at : List ℕ → ℕ) → Law (λ l. opened K word full (at l) l) (Headed word full S)
  law_opened false at bs = (opened_reads false 0).law bs
  law_opened true at bs = from ((opened_reads true 0).law bs)
    where
      from : Out (opened K word true 0) (Headed word true S) bs → Out (λ l. opened K word true (at l) l) (Headed word true S) bs
      from (read w r x e s f) = absurd (true≢false ((s true).1 refl))
      from (stop w r e s f) =
          stop w r e s
          (λ q h. ended_twice (λ g. g ≡ Err (Form (length q))) 0 (at (w ++ q)) (λ d. clash cc) (need (word_at word (w ++ q))) (λ l. need (gap_at l)) (f q h))
      from (past o) = past (ended_twice Other 0 (at bs) (λ t. t) (need (word_at word bs)) (λ l. need (gap_at l)) o)

  pub head_reads : (full : Bool) (at : List ℕ → ℕ) → Reads (λ l. and_then (head_at word full (at l) l) (λ _. K)) (Headed word full S) Any F
  head_reads full at =
      reads_same (λ l. sym (head_opened K word full (at l) l))
      (record {
        law = law_opened full at;
        full = λ b z w left. (opened_reads full (at (w ++ left))).full b z w left;
        start = λ b z w left s h. tt;
        some = (opened_reads full 0).some;
      })

-- the test of a range, in numbers

pub inside : (low end n : ℕ) → within low end n ≡ true → (low ≤ n) × (n < end)
inside low end n t = let p = and_parts (leb low n) (ltb n end) t in (leb-true low n p.0, ltb-true n end p.1)

pub is_inside : (low end n : ℕ) → low ≤ n → n < end → within low end n ≡ true
is_inside low end n p q = and_from (leb low n) (ltb n end) (le-leb low n p) (lt-ltb n end q)

-- a line of a word and two numbers, after its opening bracket

abbrev Pair : List ℕ → Bool → (ℕ → Bool) → (ℕ → Bool) → Lang (ℕ × ℕ)
Pair word full s t b p w = PairSpelled word p.0 p.1 w × Strictly b ((full ≡ false) × (s p.0 ≡ true) × (t p.1 ≡ true))

module _ (word : List ℕ) (full : Bool) (s t : ℕ → Bool) where
  abbrev Second : ℕ → Lang (ℕ × ℕ)
  Second x = Both (Passing t) (λ y b p w. (z : Unit {0}) × (p ≡ (x, y)) × End w)

  abbrev Numbers : Lang (ℕ × ℕ)
  Numbers = Both (Passing s) (λ x b p. Then Gap (Second x b p))

  pub pair_reads : (at : List ℕ → ℕ) → Reads (λ l. pair_at word full (at l) s t l) (Pair word full s t) Any Any
  pair_reads at =
      reads_map to back
      (head_reads (bind (number_reads s) (λ x. then (gap_reads NoDigit (λ _. refl)) (bind (number_reads t) (λ y. value (λ _. (x, y)) (end_reads NoDigit (λ _. refl)))))) word full at)
    where
      to : (b : Bool) (p : ℕ × ℕ) (w : List ℕ) → Headed word full Numbers b p w → Pair word full s t b p w
      to b p w ((u1, v1, e1, s1, (u2, v2, e2, s2, (x, (u3, v3, e3, (s3, o3), (u4, v4, e4, s4, (y, (u5, v5, e5, (s5, o5), (_, pe, end)))))))), room) =
          subst (λ p. Pair word full s t b p w) (sym pe)
          ((u1, v1, e1, s1, (u2, v2, e2, s2, (u3, v3, e3, s3, (u4, v4, e4, s4, (u5, v5, e5, s5, end))))), λ strict. (room strict, o3 strict, o5 strict))

      back : (b : Bool) (p : ℕ × ℕ) (w : List ℕ) → Pair word full s t b p w → Headed word full Numbers b p w
      back b p w ((u1, v1, e1, s1, (u2, v2, e2, s2, (u3, v3, e3, s3, (u4, v4, e4, s4, (u5, v5, e5, s5, end))))), lawful) =
          ((u1, v1, e1, s1, (u2, v2, e2, s2, (p.0, (u3, v3, e3, (s3, λ strict. (lawful strict).1), (u4, v4, e4, s4, (p.1, (u5, v5, e5, (s5, λ strict. (lawful strict).2), (tt, refl, end)))))))), λ strict. (lawful strict).0)
