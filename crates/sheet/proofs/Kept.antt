-- What every history keeps: records as they were entered, and bytes that are the degrees of the rows' formulas.
use Rattle.std.proofs.Common.{◌≡◌, ℕ, ◌+◌, ◌*◌, ◌<◌, ◌≤◌, eqb, ltb, ◌⊎◌, List, [], ◌∷◌, ◌++◌, length, take, Ok, sym, refl, ap, ◌∙◌, subst, inl, inr, suc-mul, zero-mul, add-one, arith}
use Rattle.std.proofs.lemmas.List.{length-append, length-set, get_or_append_left, get_or_push, get_or-set_same, get_or-set_other, take_all}
use Rattle.std.proofs.lemmas.Bool.{cases_order, cond-true, cond-false, lt-ltb, eq-eqb, ne_eqb}
use Rattle.logic.specs.Formulas.{Formula}
use Rattle.logic.specs.Satisfaction.{degree}
use Rattle.model.specs.Meaning.{Meaning, Lawful}
use Rattle.model.specs.Walkable.{Total, walkability}
use Rattle.model.proofs.Walked.{walked-total}
use Rattle.scale.specs.Grades.{Grades, Lawful as Orderly}
use Rattle.sheet.specs.Calls.{byte_at, given, first_of, second_of, degrees_of, with_row}
use Rattle.sheet.specs.Histories.{History, opened, entered, refused, asked, walked, forgot, formula_at, formula_of, standing}
use Rattle.sheet.specs.Kinds.{operands_of, kind_of}
use Rattle.sheet.specs.States.{State}
use Rattle.sheet.specs.Walking.{record_of}
use Rattle.sheet.specs.declared.row.Row.{Row}
use Rattle.sheet.proofs.Accepted.{passed, Accepted, accepted, refused_leaves}
use Rattle.sheet.proofs.Places.{place_below}
use Rattle.sheet.proofs.Resting.{rests, degree_by, alike}
use Rattle.sheet.proofs.Writes.{length-written, read_back, left_before}

-- row r stands for its formula: it has a kind, its operands are earlier rows, and one that it does not use is 0
pub record Stands (fs : List Formula) (r : ℕ) (x : Row) : Type 0 where
  pub some_kind : 1 ≤ x.kind
  pub last_kind : x.kind ≤ 15
  pub first : (x.kind ≡ 1 → ⊥) → x.a < r
  pub second : operands_of x.kind ≡ 2 → x.b < r
  pub unused : (operands_of x.kind ≡ 2 → ⊥) → x.b ≡ 0
  pub is : formula_at fs r ≡ formula_of fs x

pub record Kept (m : Meaning) (g : Grades) (s : State) (fs : List Formula) : Type 0 where
  pub total : Total m
  pub walkable : Ok tt ≡ walkability m
  pub states : s.states ≡ m.states
  pub props : s.props ≡ m.props
  pub levels : s.levels ≡ g.levels
  pub count : s.count ≡ length fs
  pub records : length fs ≤ length s.records
  pub room : length fs * s.states ≤ length s.degrees
  pub rows : (r : ℕ) → r < length fs → Stands fs r (record_of s r)
  pub bytes : (r k : ℕ) → r < length fs → k < s.states → byte_at s r k ≡ degree m g (formula_at fs r) k

pub given_is : {m : Meaning} {g : Grades} {s : State} {fs : List Formula} (K : Kept m g s fs) (r k : ℕ) → r < length fs → k < m.states → given s r k ≡ degree m g (formula_at fs r) k
given_is {s = s} K r k h l =
    let here : k < s.states = omega (arith, K.states) in
    cond-true (ltb k s.states) (byte_at s r k) 0 (lt-ltb k s.states here) ∙ K.bytes r k h here

module _ (m : Meaning) (law : Lawful m) (g : Grades) (orderly : Orderly g) where
  module _ (s : State) (fs : List Formula) (K : Kept m g s fs) (x : Row) (n : ℕ) (A : Accepted m g s x n) where
    abbrev N : ℕ
    N = s.states

    -- the degrees that are worked out from true bytes are those of the row's formula
    true_degrees : (k : ℕ) → k < m.states → degrees_of m g s x k ≡ degree m g (formula_of fs x) k
    true_degrees k here =
        rests m law A.total g orderly x.a x.kind A.some_kind A.last_kind (first_of s x) (second_of s x) (degree m g (formula_at fs x.a)) (degree m g (formula_at fs x.b))
        (λ ne j l. ap (λ (f : ℕ → ℕ). f j) (cond-false (eqb x.kind 1) _ (given s x.a) (ne_eqb x.kind 1 ne)) ∙ given_is K x.a j (omega (arith, A.first ne, K.count)) l)
        (λ two j l. ap (λ (f : ℕ → ℕ). f j) (cond-true (eqb (operands_of x.kind) 2) (given s x.b) _ (eq-eqb (operands_of x.kind) 2 two)) ∙ given_is K x.b j (omega (arith, A.second two, K.count)) l)
        k here
        ∙ sym (degree_by m g (kind_of x.kind x.a) (formula_at fs x.a) (formula_at fs x.b) k)

    abbrev more : List Formula
    more = fs ++ (formula_of fs x ∷ [])

    grows : length more ≡ length fs + 1
    grows = length-append fs (formula_of fs x ∷ [])

    -- an earlier row's formula, and the new one's
    old : (r : ℕ) → r < length fs → formula_at more r ≡ formula_at fs r
    old r h = get_or_append_left fs (formula_of fs x ∷ []) _ r h

    new : formula_at more (length fs) ≡ formula_of fs x
    new = get_or_push fs (formula_of fs x) _ (length fs) refl

    -- a formula over operands that were there before
    over : (r : ℕ) (y : Row) → ((y.kind ≡ 1 → ⊥) → y.a < r) → (operands_of y.kind ≡ 2 → y.b < r) → r ≤ length fs → 1 ≤ y.kind → y.kind ≤ 15 → formula_of more y ≡ formula_of fs y
    over r y first second h low high =
        alike (formula_at more y.a) (formula_at more y.b) (formula_at fs y.a) (formula_at fs y.b) y.a y.kind low high
        (λ ne. old y.a (omega (arith, first ne))) (λ two. old y.b (omega (arith, second two)))

    abbrev after : State
    after = with_row m g s x

    row_at : (r : ℕ) → (r ≡ length fs) ⊎ ((r < length fs) ⊎ (length fs < r)) → r < length more → Stands more r (record_of after r)
    row_at r (inl e) h =
        let here : record_of after r ≡ x = ap (λ (j : ℕ). record_of after j) (e ∙ sym K.count) ∙ get_or-set_same s.records s.count x _ A.records in
        subst (Stands more r) (sym here) (record {
          some_kind = A.some_kind;
          last_kind = A.last_kind;
          first = λ ne. omega (arith, A.first ne, K.count);
          second = λ two. omega (arith, A.second two, K.count);
          unused = A.unused;
          is = ap (formula_at more) e ∙ new ∙ sym (over (length fs) x (λ ne. omega (arith, A.first ne, K.count)) (λ two. omega (arith, A.second two, K.count)) (omega arith) A.some_kind A.last_kind);
        })
    row_at r (inr (inl l)) h =
        let same : record_of after r ≡ record_of s r = get_or-set_other s.records s.count r x _ (λ (q : r ≡ s.count). omega (arith, K.count)) in
        let k = K.rows r l in
        subst (Stands more r) (sym same) (record {
          some_kind = k.some_kind;
          last_kind = k.last_kind;
          first = k.first;
          second = k.second;
          unused = k.unused;
          is = old r l ∙ k.is ∙ sym (over r (record_of s r) k.first k.second (omega arith) k.some_kind k.last_kind);
        })
    row_at r (inr (inr l)) h = absurd (omega (arith, grows))

    byte_at_lem : (r k : ℕ) → (r ≡ length fs) ⊎ ((r < length fs) ⊎ (length fs < r)) → r < length more → k < s.states → byte_at after r k ≡ degree m g (formula_at more r) k
    byte_at_lem r k (inl e) h l =
        let room : s.count * N + N ≤ length s.degrees = omega (arith, A.bytes, ap (λ (c : ℕ). c * N) (add-one s.count), suc-mul s.count N) in
        ap (λ (j : ℕ). byte_at after j k) (e ∙ sym K.count)
        ∙ read_back s.degrees (s.count * N) N (degrees_of m g s x) k l room
        ∙ true_degrees k (omega (arith, K.states))
        ∙ ap (λ (f : Formula). degree m g f k) (sym (ap (formula_at more) e ∙ new))
    byte_at_lem r k (inr (inl b)) h l =
        left_before s.degrees (s.count * N) N (degrees_of m g s x) (r * N + k) (place_below r s.count N k (omega (arith, K.count)) l)
        ∙ K.bytes r k b l ∙ ap (λ (f : Formula). degree m g f k) (sym (old r b))
    byte_at_lem r k (inr (inr b)) h l = absurd (omega (arith, grows))

    pub kept_row : Kept m g after more
    kept_row = record {
      total = K.total;
      walkable = K.walkable;
      states = K.states;
      props = K.props;
      levels = K.levels;
      count = omega (arith, K.count, grows);
      records = omega (arith, grows, length-set s.records s.count x, A.records, K.count);
      room = omega (arith, length-written s.degrees (s.count * N) N (degrees_of m g s x), ap (λ (c : ℕ). c * N) (grows ∙ ap (λ (c : ℕ). c + 1) (sym K.count)), A.bytes);
      rows = λ r h. row_at r (cases_order r (length fs)) h;
      bytes = λ r k h l. byte_at_lem r k (cases_order r (length fs)) h l;
    }

  -- a sheet without rows
  kept-none : (s : State) → Total m → Ok tt ≡ walkability m → s.states ≡ m.states → s.props ≡ m.props → s.levels ≡ g.levels → s.count ≡ 0 → Kept m g s []
  kept-none s total walkable states props levels count = record {
    total = total;
    walkable = walkable;
    states = states;
    props = props;
    levels = levels;
    count = count;
    records = omega arith;
    room = omega (arith, zero-mul s.states);
    rows = λ r h. absurd (omega arith);
    bytes = λ r k h l. absurd (omega arith);
  }

  pub kept : {s : State} {fs : List Formula} → History m g s fs → Kept m g s fs
  kept (opened {s} rs bs h) =
      let new : State = record { states = m.states; props = m.props; levels = g.levels; count = 0; records = rs; degrees = bs } in
      let p = passed (walkability m) (Ok new) s h in
      let same : s ≡ new = let e = p.1 in cc in
      kept-none s (walked-total m law tt p.0) p.0 (ap (λ (t : State). t.states) same) (ap (λ (t : State). t.props) same) (ap (λ (t : State). t.levels) same) (ap (λ (t : State). t.count) same)
  kept (entered {s} {t} {fs} x n h a l) =
      let A = accepted m law g s x n a in
      let K = kept h in
      let all : take n fs ≡ fs = take_all n fs (omega (arith, A.number, K.count)) in
      subst (λ (u : State). Kept m g u (standing fs n (formula_of fs x))) (sym (l ∙ A.leaves))
      (subst (λ (gs : List Formula). Kept m g (with_row m g s x) (gs ++ (formula_of fs x ∷ []))) (sym all) (kept_row s fs K x n A))
  kept (refused {s} {t} {fs} x e h a l) = subst (λ (u : State). Kept m g u fs) (sym (l ∙ refused_leaves m g s x e a)) (kept h)
  kept (asked r k answer h a) = kept h
  kept (walked r k l ys xs answer h a) = kept h
  kept (forgot {s} {t} h l) =
      let K = kept h in
      kept-none t K.total K.walkable (ap (λ (u : State). u.states) l ∙ K.states) (ap (λ (u : State). u.props) l ∙ K.props) (ap (λ (u : State). u.levels) l ∙ K.levels) (ap (λ (u : State). u.count) l)
