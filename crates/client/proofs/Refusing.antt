-- Three rows entered on a new sheet, one call after the other: what each call refuses.
use Rattle.std.proofs.Common.{◌≡◌, ℕ, ◌+◌, ◌*◌, ◌<◌, ◌≤◌, Bool, true, false, not, ◌||◌, eqb, ltb, leb, List, [], ◌∷◌, length, take, Ok, Err, Result, sym, refl, ap, ◌∙◌, arith}
use Rattle.std.proofs.lemmas.Bool.{or_from, or_parts, lt-leb, le-ltb, ltb-false, leb-false, both_ways, eq-eqb, not_from_true, le-leb}
use Rattle.std.proofs.lemmas.List.{length-append, length-set, length-take-le}
use Rattle.logic.specs.Formulas.{Formula}
use Rattle.model.specs.Faults.{Refusal, refusal}
use Rattle.model.specs.Meaning.{Meaning, Lawful}
use Rattle.model.specs.Walkable.{walkability}
use Rattle.scale.specs.Grades.{Grades, Lawful as Orderly}
use Rattle.sheet.specs.Calls.{refuse_if, and_then, roomy, formed, readable, sound, entering, byte_at, degrees_of, open_answer, enter_answer, enter_leaves, degree_answer}
use Rattle.sheet.specs.Histories.{History, opened, entered, formula_of, standing}
use Rattle.sheet.specs.Kinds.{operands_of}
use Rattle.sheet.specs.States.{State}
use Rattle.sheet.specs.declared.row.Row.{Row}
use Rattle.sheet.proofs.Accepted.{passed, accepted}
use Rattle.sheet.proofs.Exits.{stops, goes}
use Rattle.sheet.proofs.Kept.{Kept, kept}
use Rattle.sheet.proofs.Laws.{skips, fits, byte_low}
use Rattle.sheet.proofs.Sound.{all_pass}
use Rattle.sheet.proofs.Writes.{length-written}
use Rattle.client.specs.Promise.{refused}
use Rattle.client.proofs.Entering.{row, numbered}

-- a check that is handed on alone
alone : (a : Result Unit Refusal) → and_then a (Ok tt) ≡ a
alone (Ok u) = refl
alone (Err e) = refl

nowhere : {A X : Type 0} (e : Refusal) (x : X) → ◌≡◌ {A = Result X Refusal} (Err e) (Ok x) → A
nowhere e x h = let z : ◌≡◌ {A = ℕ} 0 1 = cc in absurd (omega arith)

-- what a call refuses, its check refuses
fails : {X : Type 0} (a : Result Unit Refusal) (x : X) (e : Refusal) → Err e ≡ and_then a (Ok x) → Err e ≡ a
fails (Ok u) x e h = nowhere e x h
fails (Err f) x e h = let same : e ≡ f = cc in ap Err same

-- the same of two checks
either : (a b r : Result Unit Refusal) (e : Refusal) → Err e ≡ and_then a b → Err e ≡ and_then a (and_then b r)
either (Ok u) b r e h = stops r h
either (Err f) b r e h = h

-- what one test refuses, a test that holds where it does refuses too
wider : (b c : Bool) (r e : Refusal) → (c ≡ false → b ≡ false) → Err e ≡ refuse_if b r → Err e ≡ refuse_if c r
wider true true r e w h = h
wider true false r e w h = absurd (both_ways true (w refl) refl)
wider false c r e w h = nowhere e tt h

-- a buffer is too short for n rows
abbrev short : Meaning → ℕ → ℕ → ℕ → Bool
short m k l n = ltb k n || ltb l (n * m.states)

-- too short for two rows, too short for three
longer : (m : Meaning) (k l : ℕ) → short m k l 3 ≡ false → short m k l 2 ≡ false
longer m k l h =
    let each = or_parts (ltb k 3) (ltb l (3 * m.states)) h in
    or_from (ltb k 2) (ltb l (2 * m.states)) (le-ltb _ _ (omega (arith, ltb-false k 3 each.0))) (le-ltb _ _ (omega (arith, ltb-false l (3 * m.states) each.1)))

-- what is refused once the first row is in
abbrev later : Meaning → (k l j : ℕ) → Result Unit Refusal
later m k l j = and_then (refuse_if (short m k l 3) (refusal 4 0)) (refuse_if (leb m.states j) (refusal 8 0))

-- a sheet with a history of n rows, over buffers for k records and l bytes
record Entered (m : Meaning) (g : Grades) (k l : ℕ) (s : State) (n : ℕ) : Type 0 where
  formulas : List Formula
  history : History m g s formulas
  many : length formulas ≡ n
  records : length s.records ≡ k
  bytes : length s.degrees ≡ l

module _ (m : Meaning) (law : Lawful m) (g : Grades) (orderly : Orderly g) where
  -- a model that cannot be walked
  pub new_refuses : (rs : List Row) (bs : List ℕ) (k l p j : ℕ) (e : Refusal) → Err e ≡ open_answer m g rs bs → Err e ≡ refused m k l p j
  new_refuses rs bs k l p j e h = stops _ (fails (walkability m) _ e h)

  new : {s : State} (rs : List Row) (bs : List ℕ) → Ok s ≡ open_answer m g rs bs → Entered m g (length rs) (length bs) s 0
  new {s} rs bs h =
      let fresh : State = record { states = m.states; props = m.props; levels = g.levels; count = 0; records = rs; degrees = bs } in
      let same : s ≡ fresh = let e = (passed (walkability m) (Ok fresh) s h).1 in cc in
      record {
        formulas = [];
        history = opened rs bs h;
        many = refl;
        records = ap (λ (t : State). length t.records) same;
        bytes = ap (λ (t : State). length t.degrees) same;
      }

  module _ {k l n : ℕ} {s : State} (E : Entered m g k l s n) where
    abbrev K : Kept m g s E.formulas
    K = kept m law g orderly E.history

    count_is : s.count ≡ n
    count_is = K.count ∙ E.many

    next : {t : State} (x : Row) {a : ℕ} → Ok a ≡ enter_answer m g s x → t ≡ enter_leaves m g s x → Entered m g k l t (n + 1)
    next {t} x {a} h q =
        let A = accepted m law g s x a h in
        let few : a ≤ length E.formulas = omega (arith, A.number, K.count) in
        record {
          formulas = standing E.formulas a (formula_of E.formulas x);
          history = entered x a E.history h q;
          many = omega (arith, length-append (take a E.formulas) (formula_of E.formulas x ∷ []), length-take-le a E.formulas few, A.number, count_is);
          records = ap (λ (t : State). length t.records) (q ∙ A.leaves) ∙ length-set s.records s.count x ∙ E.records;
          bytes = ap (λ (t : State). length t.degrees) (q ∙ A.leaves) ∙ length-written s.degrees (s.count * s.states) s.states (degrees_of m g s x) ∙ E.bytes;
        }

    -- the new row's number
    below : (x : Row) {a : ℕ} → Ok a ≡ enter_answer m g s x → a < n + 1
    below x {a} h = omega (arith, numbered m law g orderly x a E.history h, E.many)

    roomy_is : n < 128 → roomy s ≡ refuse_if (short m k l (n + 1)) (refusal 4 0)
    roomy_is few = rw (count_is, E.records, E.bytes, K.states, lt-leb 128 n few) refl

    fitting_is : (not (eqb m.states s.states) || not (eqb m.props s.props) || not (eqb g.levels s.levels)) ≡ false
    fitting_is =
        or_from _ _
        (or_from _ _ (not_from_true (eqb m.states s.states) (eq-eqb _ _ (sym K.states))) (not_from_true (eqb m.props s.props) (eq-eqb _ _ (sym K.props))))
        (not_from_true (eqb g.levels s.levels) (eq-eqb _ _ (sym K.levels)))

    -- sizes and model pass; the room and the row decide
    entering_is : n < 128 → (x : Row) (f : Result Unit Refusal) → and_then (formed s x) (readable s x) ≡ f → entering m g s x ≡ and_then (refuse_if (short m k l (n + 1)) (refusal 4 0)) f
    entering_is few x f e =
        skips _ (refusal 3 0) _ fitting_is
        ∙ ap (λ (w : Result Unit Refusal). and_then w (and_then (roomy s) (and_then (formed s x) (readable s x)))) (sym K.walkable)
        ∙ ap (λ (w : Result Unit Refusal). and_then w (and_then (formed s x) (readable s x))) (roomy_is few)
        ∙ ap (and_then (refuse_if (short m k l (n + 1)) (refusal 4 0))) e

    proposition : (p : ℕ) → n < 128 → entering m g s (row 1 p) ≡ and_then (refuse_if (short m k l (n + 1)) (refusal 4 0)) (refuse_if (leb m.props p) (refusal 6 0))
    proposition p few =
        entering_is few (row 1 p) (refuse_if (leb m.props p) (refusal 6 0))
        (alone _ ∙ alone _ ∙ ap (λ (c : ℕ). refuse_if (leb c p) (refusal 6 0)) K.props)

    sound_row : (i : ℕ) → i < n → sound s i ≡ true
    sound_row i q = sym (all_pass (λ j. leb (byte_at s i j) s.levels) s.states (λ j h. le-leb _ _ (byte_low m g s E.formulas K i j (omega (arith, E.many)) h)))

    -- a row of one operand
    unary : (x a : ℕ) → (ltb x 1 || ltb 15 x) ≡ false → eqb x 1 ≡ false → eqb (operands_of x) 2 ≡ false → a < n → n < 128 →
        entering m g s (row x a) ≡ refuse_if (short m k l (n + 1)) (refusal 4 0)
    unary x a kind path one there few =
        entering_is few (row x a) (Ok tt)
        (rw (kind, path, one, lt-leb s.count a (omega (arith, count_is)), sound_row a there) refl)
        ∙ alone _

    -- the degree of a row that is there
    degree_at : (r j : ℕ) → r < n → (t : Bool) → leb s.states j ≡ t → degree_answer s r j ≡ and_then (refuse_if t (refusal 8 0)) (Ok (byte_at s r j))
    degree_at r j here true e = rw (lt-leb s.count r (omega (arith, count_is)), e) refl
    degree_at r j here false e =
        skips _ (refusal 8 0) _ (or_from _ _ (lt-leb s.count r (omega (arith, count_is))) e)
        ∙ skips _ (refusal 4 0) _ (le-ltb _ _ (fits m g s E.formulas K))
        ∙ skips _ (refusal 9 0) _ (le-ltb _ _ (byte_low m g s E.formulas K r j (omega (arith, E.many)) (leb-false _ _ e)))

    degree_is : (r j : ℕ) → r < n → degree_answer s r j ≡ and_then (refuse_if (leb m.states j) (refusal 8 0)) (Ok (byte_at s r j))
    degree_is r j here =
        degree_at r j here (leb s.states j) refl ∙ ap (λ (c : ℕ). and_then (refuse_if (leb c j) (refusal 8 0)) (Ok (byte_at s r j))) K.states

  -- the four calls one after the other, and what the client answers where one of them is refused
  module _ (p j : ℕ) (rs : List Row) (bs : List ℕ) {s0 : State} (o : Ok s0 ≡ open_answer m g rs bs) {x : Row} (ex : x ≡ row 1 p) where
    abbrev k : ℕ
    k = length rs

    abbrev l : ℕ
    l = length bs

    E0 : Entered m g k l s0 0
    E0 = new rs bs o

    abbrev room : Result Unit Refusal
    room = refuse_if (ltb k 1 || ltb l m.states) (refusal 4 0)

    abbrev named : Result Unit Refusal
    named = refuse_if (leb m.props p) (refusal 6 0)

    first : enter_answer m g s0 x ≡ and_then (and_then room named) (Ok s0.count)
    first =
        let one : 1 * m.states ≡ m.states = omega arith in
        ap (enter_answer m g s0) ex
        ∙ ap (λ (w : Result Unit Refusal). and_then w (Ok s0.count)) (proposition E0 p (omega arith))
        ∙ ap (λ (c : ℕ). and_then (and_then (refuse_if (ltb k 1 || ltb l c) (refusal 4 0)) named) (Ok s0.count)) one

    pub first_refuses : (e : Refusal) → Err e ≡ enter_answer m g s0 x → Err e ≡ refused m k l p j
    first_refuses e h = goes (K E0).walkable (either room named (later m k l j) e (fails (and_then room named) s0.count e (h ∙ first)))

    module _ {a : ℕ} {s1 : State} (h1 : Ok a ≡ enter_answer m g s0 x) (l1 : s1 ≡ enter_leaves m g s0 x) {y : Row} (ey : y ≡ row 4 a) where
      E1 : Entered m g k l s1 1
      E1 = next E0 x h1 l1

      past_first : {z : Result Unit Refusal} → z ≡ later m k l j → z ≡ refused m k l p j
      past_first rest =
          let each = passed room named tt (passed (and_then room named) (Ok s0.count) a (h1 ∙ first)).0 in
          goes (K E0).walkable (goes each.0 (goes each.1 rest))

      second : enter_answer m g s1 y ≡ and_then (refuse_if (short m k l 2) (refusal 4 0)) (Ok s1.count)
      second = ap (enter_answer m g s1) ey ∙ ap (λ (w : Result Unit Refusal). and_then w (Ok s1.count)) (unary E1 4 a refl refl refl (below E0 x h1) (omega arith))

      pub second_refuses : (e : Refusal) → Err e ≡ enter_answer m g s1 y → Err e ≡ refused m k l p j
      second_refuses e h = past_first (stops _ (wider (short m k l 2) (short m k l 3) _ e (longer m k l) (fails _ s1.count e (h ∙ second))))

      module _ {b : ℕ} {s2 : State} (h2 : Ok b ≡ enter_answer m g s1 y) (l2 : s2 ≡ enter_leaves m g s1 y) {z : Row} (ez : z ≡ row 13 b) where
        E2 : Entered m g k l s2 2
        E2 = next E1 y h2 l2

        third : enter_answer m g s2 z ≡ and_then (refuse_if (short m k l 3) (refusal 4 0)) (Ok s2.count)
        third = ap (enter_answer m g s2) ez ∙ ap (λ (w : Result Unit Refusal). and_then w (Ok s2.count)) (unary E2 13 b refl refl refl (below E1 y h2) (omega arith))

        pub third_refuses : (e : Refusal) → Err e ≡ enter_answer m g s2 z → Err e ≡ refused m k l p j
        third_refuses e h = past_first (stops _ (fails _ s2.count e (h ∙ third)))

        module _ {c : ℕ} {s3 : State} (h3 : Ok c ≡ enter_answer m g s2 z) (l3 : s3 ≡ enter_leaves m g s2 z) where
          past_third : {r : Result Unit Refusal} → r ≡ refuse_if (leb m.states j) (refusal 8 0) → r ≡ refused m k l p j
          past_third rest = past_first (goes (passed _ (Ok s2.count) c (h3 ∙ third)).0 rest)

          asked : degree_answer s3 c j ≡ and_then (refuse_if (leb m.states j) (refusal 8 0)) (Ok (byte_at s3 c j))
          asked = degree_is (next E2 z h3 l3) c j (below E2 z h3)

          pub degree_refuses : (e : Refusal) → Err e ≡ degree_answer s3 c j → Err e ≡ refused m k l p j
          degree_refuses e h = past_third (fails _ (byte_at s3 c j) e (h ∙ asked))

          pub none_refuses : (d : ℕ) → Ok d ≡ degree_answer s3 c j → Ok tt ≡ refused m k l p j
          none_refuses d h = past_third (passed _ (Ok (byte_at s3 c j)) d (h ∙ asked)).0
