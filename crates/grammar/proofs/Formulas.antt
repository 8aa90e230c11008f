-- A formula is read as its rows.
use Rattle.std.proofs.Common.{◌≡◌, ℕ, zero, suc, ◌+◌, ◌-◌, ◌<◌, ◌≤◌, min, Bool, true, false, cond, ◌&&◌, eqb, ltb, List, [], ◌∷◌, ◌++◌, length, Err, codes, sym, refl, ap, ◌∙◌, subst, ⊎_elim, arith, length-append}
use Rattle.std.proofs.lemmas.Bool.{cond-true, cond-false, cases_Bool, cases_eq, ne_eqb, and_parts, and_from, ltb-true, lt-ltb, false≢true}
use Rattle.logic.specs.Formulas.{Formula}
use Rattle.logic.specs.Formulas.Formula.{prop, unary, binary}
use Rattle.sheet.specs.Kinds.{operands_of, name_of}
use Rattle.sheet.specs.declared.row.Row.{Row}
use Rattle.text.specs.declared.fault.ReadFault.TheVariants.{Form, Many}
use Rattle.text.specs.Reads.{Got}
use Rattle.text.specs.Formulas.{open_at, row_for, close_at, prop_at, formula_by, formula_at}
use Rattle.grammar.specs.Languages.{Language, Then, Word, Gap}
use Rattle.grammar.specs.Scripts.{size, depth, entered, number_of, number_of_binary}
use Rattle.grammar.specs.Spelling.{FormulaSpelled}
use Rattle.grammar.proofs.Readings.{Lang, Strictly, Both, Other, Out, read, stop, past, Law, Fine, Reads, Any, NoSpace, NoDigit}
use Rattle.grammar.proofs.Binds.{none_head, some_head, lenient, bind, then, value, either, reads_map}
use Rattle.grammar.proofs.Words.{word_reads, gap_reads}
use Rattle.grammar.proofs.Numbers.{Numerals, numeral_reads}
use Rattle.grammar.proofs.Names.{Head, atom, one, two, number, is_atom, is_two, known, Name, name_reads}

-- a formula that is lawful where P holds of it, as the rows that it leads to
abbrev pub Entered : (Formula → Type 0) → List Row → Lang (List Row)
Entered P rows b z w = (f : Formula) × (z ≡ entered rows f) × FormulaSpelled f w × Strictly b (P f)

-- where 16 - k brackets are open, and k more may be: the rows and the open brackets leave room in 32
abbrev pub Within : ℕ → List Row → Formula → Type 0
Within k rows f = (depth f ≤ k) × (length rows + (16 - k) + size f ≤ 32)

-- and the same for what stands inside one more bracket
abbrev Beneath : ℕ → List Row → Formula → Type 0
Beneath k rows f = (depth f < k) × (length rows + (16 - k) + size f < 32)

pub entered-length : (rows : List Row) (f : Formula) → length (entered rows f) ≡ length rows + size f
entered-length rows (prop i) = length-append rows _
entered-length rows (unary k f) = omega (arith, length-append (entered rows f) (row_for (number_of k) (length (entered rows f) - 1) 0 ∷ []), entered-length rows f)
entered-length rows (binary k f h) =
    omega (arith, length-append (entered (entered rows f) h) (row_for (number_of_binary k) (length (entered rows f) - 1) (length (entered (entered rows f) h) - 1) ∷ []), entered-length (entered rows f) h, entered-length rows f)

-- the opening bracket

abbrev room : ℕ → List Row → Bool
room k rows = ltb 0 k && ltb (length rows + (16 - k)) 32

abbrev Opening : ℕ → List Row → Bool → Language
Opening k rows b w = Word (40 ∷ []) w × Strictly b (room k rows ≡ true)

module _ (k : ℕ) (rows : List Row) where
  law_open : Law (open_at k rows) (λ b _. Opening k rows b)
  law_open [] = stop [] [] refl (tt, 40 ∷ [], (refl, λ t. absurd (false≢true t))) (λ q h. subst (λ l. open_at k rows l ≡ Err (Form (length l))) (sym (none_head q h)) refl)
  law_open (c ∷ bs) = ⊎_elim (λ e. ⊎_elim (on e) (over e) (cases_Bool (room k rows))) off (cases_eq c 40)
    where
      on : c ≡ 40 → room k rows ≡ true → Out (open_at k rows) (λ b _. Opening k rows b) (c ∷ bs)
      on e t = read (40 ∷ []) bs tt (ap (λ y. y ∷ bs) e) (λ b. (refl, λ _. t)) (λ q h. cond-true (room k rows) _ _ t)

      over : c ≡ 40 → room k rows ≡ false → Out (open_at k rows) (λ b _. Opening k rows b) (c ∷ bs)
      over e t = past (subst Other (sym (ap (λ y. open_at k rows (y ∷ bs)) e ∙ cond-false (room k rows) _ _ t)) tt)

      off : (c ≡ 40 → ⊥) → Out (open_at k rows) (λ b _. Opening k rows b) (c ∷ bs)
      off ne =
          stop [] (c ∷ bs) refl (tt, 40 ∷ [], (refl, λ t. absurd (false≢true t)))
          (λ q h. let t = some_head c q h in subst (λ l. open_at k rows l ≡ Err (Form (length l))) (sym t.1) (cond-false (eqb c 40) _ _ (ne_eqb c 40 ne)))

  open_reads : Reads (open_at k rows) (λ b _. Opening k rows b) NoSpace Any
  open_reads =
      record {
        law = law_open;
        full = λ b x w left (e, fits) h.
            subst (λ l. Fine b (open_at k rows (l ++ left)) tt left) (sym e)
            (⊎_elim
            (λ t. subst (λ g. Fine b g tt left) (sym (cond-true (room k rows) _ _ t)) refl)
            (λ t. subst (λ g. Fine b g tt left) (sym (cond-false (room k rows) _ _ t)) (lenient b (room k rows) fits t))
            (cases_Bool (room k rows)));
        start = λ b x w left (e, fits) h. subst (λ l. NoSpace (l ++ left)) (sym e) (λ d. omega arith);
        some = (tt, 40 ∷ [], (refl, λ t. absurd (false≢true t)));
      }

-- what stands after a name and a gap

abbrev Closed : List Row → Row → Lang (List Row)
Closed rows row b z w = (x : Unit {0}) × (z ≡ rows ++ (row ∷ [])) × Word (41 ∷ []) w

close_reads : (A : Language) → ((left : List ℕ) → A (41 ∷ left)) → (rows : List Row) (row : Row) → Reads (close_at rows row) (Closed rows row) A Any
close_reads A first rows row = value (λ _. rows ++ (row ∷ [])) (word_reads A (41 ∷ []) first)

abbrev Props : List Row → Lang (List Row)
Props rows = Both Numerals (λ i. Closed rows (row_for 1 (min i 255) 0))

prop_reads : (rows : List Row) → Reads (prop_at rows) (Props rows) NoSpace Any
prop_reads rows = bind numeral_reads (λ i. close_reads NoDigit (λ _. refl) rows (row_for 1 (min i 255) 0))

module _ (k : ℕ) where
  abbrev Ones : ℕ → List Row → Lang (List Row)
  Ones kind rows = Both (Entered (Beneath k rows) rows) (λ l. Closed l (row_for kind (length l - 1) 0))

  abbrev Twos : ℕ → List Row → Lang (List Row)
  Twos kind rows = Both (Entered (Beneath k rows) rows) (λ l b z. Then Gap (Both (Entered (Beneath k l) l) (λ r. Closed r (row_for kind (length l - 1) (length r - 1))) b z))

  -- a number, two formulas or one
  abbrev Operands : Bool → Bool → ℕ → List Row → Lang (List Row)
  Operands number pair kind rows b z w = cond number (Props rows b z w) (cond pair (Twos kind rows b z w) (Ones kind rows b z w))

  abbrev Parts : List Row → Lang (List Row)
  Parts rows b z = Then (Opening k rows b) (Both Name (λ kind b z. Then Gap (Operands (eqb kind 1) (eqb (operands_of kind) 2) kind rows b z)) b z)

  module _ (inner : List Row → List ℕ → Got (List Row)) (reads : (rows : List Row) → Reads (inner rows) (Entered (Beneath k rows) rows) NoSpace Any) where
    parts_read : (rows : List Row) → Reads (formula_by inner k rows) (Parts rows) NoSpace Any
    parts_read rows =
        then (open_reads k rows) (bind name_reads (λ kind. then (gap_reads Any (λ _. tt))
        (either (eqb kind 1) (prop_reads rows) (either (eqb (operands_of kind) 2)
        (bind (reads rows) (λ l. then (gap_reads Any (λ _. tt)) (bind (reads l) (λ r. close_reads Any (λ _. tt) r (row_for kind (length l - 1) (length r - 1))))))
        (bind (reads rows) (λ l. close_reads Any (λ _. tt) l (row_for kind (length l - 1) 0)))))))

-- the test of the opening bracket, in numbers

room_for : (k : ℕ) (rows : List Row) → room k rows ≡ true → (0 < k) × (length rows + (16 - k) < 32)
room_for k rows t = let p = and_parts (ltb 0 k) (ltb (length rows + (16 - k)) 32) t in (ltb-true 0 k p.0, ltb-true (length rows + (16 - k)) 32 p.1)

for_room : (k : ℕ) (rows : List Row) → 0 < k → length rows + (16 - k) < 32 → room k rows ≡ true
for_room k rows p q = and_from (ltb 0 k) (ltb (length rows + (16 - k)) 32) (lt-ltb 0 k p) (lt-ltb (length rows + (16 - k)) 32 q)

-- a formula by its parts

module _ (k : ℕ) (rows : List Row) (b : Bool) (z : List Row) (w : List ℕ) where
  -- what stands behind the name of a kind
  abbrev Behind : Head → Language
  Behind h = Operands k (is_atom h) (is_two h) (number h) rows b z

  by_kind : (h : Head) (o : List ℕ) → Operands k (eqb (number h) 1) (eqb (operands_of (number h)) 2) (number h) rows b z o ≡ Behind h o
  by_kind h o i = Operands k ((known h).1 i) ((known h).2 i) (number h) rows b z o

  -- the formula that a bracket, a name, a gap and what stands behind them spell
  made : (h : Head) (v g o : List ℕ) → Strictly b (room k rows ≡ true) → w ≡ (codes "(" ++ name_of (number h)) ++ v → v ≡ g ++ o → Gap g → Behind h o → Entered (Within k rows) rows b z w
  made atom v g o fits e e2 gap (i, (a, c, e3, num, (_, ze, end))) =
      (prop i, ze, (codes "(p", v, e, refl, (g, o, e2, gap, (a, c, e3, num, end))), λ s. let r = room_for k rows (fits s) in omega arith)
  made (one u) v g o fits e e2 gap (l, (a, c, e3, (f, le, sp, st), (_, ze, end))) = (
    unary u f,
    ze ∙ ap (λ r. r ++ (row_for (number_of u) (length r - 1) 0 ∷ [])) le,
    (codes "(" ++ name_of (number_of u), v, e, refl, (g, o, e2, gap, (a, c, e3, sp, end))),
    λ s. let p = st s in omega arith,
  )
  made (two u) v g o fits e e2 gap (l, (a, c, e3, (f, le, sp, st), (g2, o2, e4, gap2, (r, (a2, c2, e5, (h, re, sp2, st2), (_, ze, end)))))) =
      let lasts : r ≡ entered (entered rows f) h = re ∙ ap (λ y. entered y h) le in (
        binary u f h,
        ze ∙ (λ i. lasts i ++ (row_for (number_of_binary u) (length (le i) - 1) (length (lasts i) - 1) ∷ [])),
        (codes "(" ++ name_of (number_of_binary u), v, e, refl, (g, o, e2, gap, (a, c, e3, sp, (g2, o2, e4, gap2, (a2, c2, e5, sp2, end))))),
        λ s. let p = st s in let p2 = st2 s in omega (arith, ap length le, entered-length rows f),
      )

  joined : Parts k rows b z w → Entered (Within k rows) rows b z w
  joined (u, v, e, (s, fits), (kind, (u2, v2, e2, (h, ke, ne), (g, o, e3, gap, operands)))) =
      made h v2 g o fits (e ∙ (λ i. s i ++ e2 i) ∙ ap (λ y. 40 ∷ (y ++ v2)) ne) e3 gap
      (subst (λ y. y) (by_kind h o) (subst (λ y. Operands k (eqb y 1) (eqb (operands_of y) 2) y rows b z o) ke operands))

  -- and back, from what stands behind the name
  headed : (h : Head) (v g o : List ℕ) → Strictly b (room k rows ≡ true) → w ≡ (codes "(" ++ name_of (number h)) ++ v → v ≡ g ++ o → Gap g → Behind h o → Parts k rows b z w
  headed h v g o fits e e2 gap operands =
      let behind = subst (λ y. y) (sym (by_kind h o)) operands in
      (40 ∷ [], name_of (number h) ++ v, e, (refl, fits), (number h, (name_of (number h), v, refl, (h, refl, refl), (g, o, e2, gap, behind))))

  parted : Entered (Within k rows) rows b z w → Parts k rows b z w
  parted (prop i, ze, (u, v, e, is, (g, o, e2, gap, (a, c, e3, num, end))), st) =
      headed atom v g o (λ s. let p = st s in for_room k rows (omega arith) (omega arith)) (e ∙ ap (λ l. l ++ v) is) e2 gap (i, (a, c, e3, num, (tt, ze, end)))
  parted (unary u f, ze, (_, v, e, is, (g, o, e2, gap, (a, c, e3, sp, end))), st) =
      headed (one u) v g o (λ s. let p = st s in for_room k rows (omega arith) (omega arith)) (e ∙ ap (λ l. l ++ v) is) e2 gap
      (entered rows f, (a, c, e3, (f, refl, sp, λ s. let p = st s in omega arith), (tt, ze, end)))
  parted (binary u f h, ze, (_, v, e, is, (g, o, e2, gap, (a, c, e3, sp, (g2, o2, e4, gap2, (a2, c2, e5, sp2, end))))), st) =
      let left : Strictly b (Beneath k rows f) = λ s. let p = st s in omega arith in
      let right : Strictly b (Beneath k (entered rows f) h) = λ s. let p = st s in omega (arith, entered-length rows f) in
      headed (two u) v g o (λ s. let p = st s in for_room k rows (omega arith) (omega arith)) (e ∙ ap (λ l. l ++ v) is) e2 gap
      (entered rows f, (a, c, e3, (f, refl, sp, left), (g2, o2, e4, gap2, (entered (entered rows f) h, (a2, c2, e5, (h, refl, sp2, right), (tt, ze, end))))))

by_reads : (k : ℕ) (inner : List Row → List ℕ → Got (List Row)) → ((rows : List Row) → Reads (inner rows) (Entered (Beneath k rows) rows) NoSpace Any) → (rows : List Row) → Reads (formula_by inner k rows) (Entered (Within k rows) rows) NoSpace Any
by_reads k inner reads rows = reads_map (joined k rows) (parted k rows) (parts_read k inner reads rows)

-- a formula begins with its bracket

bracket_first : {L : Language} (cs w left : List ℕ) → Then (Word (40 ∷ cs)) L w → NoSpace (w ++ left)
bracket_first cs w left (u, v, e, is, more) = subst (λ l. NoSpace (l ++ left)) (sym (e ∙ ap (λ l. l ++ v) is)) (λ h. omega arith)

formula-first : (f : Formula) (w left : List ℕ) → FormulaSpelled f w → NoSpace (w ++ left)
formula-first (prop i) w left s = bracket_first (codes "p") w left s
formula-first (unary k f) w left s = bracket_first (name_of (number_of k)) w left s
formula-first (binary k f h) w left s = bracket_first (name_of (number_of_binary k)) w left s

-- no formula is lawful where no bracket may be open
none_reads : (rows : List Row) → Reads (λ l. Err (Many 0)) (Entered (Beneath 0 rows) rows) NoSpace Any
none_reads rows =
    record {
      law = λ bs. past tt;
      full = λ b z w left (f, ze, sp, st) h. lenient b false (λ s. let p = st s in absurd (omega arith)) refl;
      start = λ b z w left (f, ze, sp, st) h. formula-first f w left sp;
      some = (entered rows (prop 0), codes "(p 0)", (prop 0, refl, (codes "(p", codes " 0)", refl, refl, (codes " ", codes "0)", refl, (refl, tt), (codes "0", codes ")", refl, (refl, refl), refl))), λ s. absurd (false≢true s)));
    }

pub formula_reads : (k : ℕ) → k ≤ 16 → (rows : List Row) → Reads (formula_at k rows) (Entered (Within k rows) rows) NoSpace Any
unfolding formula_at
formula_reads zero most rows = by_reads 0 (λ _ _. Err (Many 0)) none_reads rows
formula_reads (suc k) most rows =
    by_reads (suc k) (formula_at k)
    (λ l. reads_map (λ b z w (f, ze, sp, st). (f, ze, sp, λ s. let p = st s in omega arith)) (λ b z w (f, ze, sp, st). (f, ze, sp, λ s. let p = st s in omega arith)) (formula_reads k (omega arith) l))
    rows
