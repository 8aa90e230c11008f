-- The law of walk, from the exact answer of the call.
use Rattle.std.proofs.Common.{◌≡◌, ℕ, ◌-◌, ◌*◌, ◌<◌, ◌≤◌, Bool, true, false, cond, not, ◌&&◌, ◌||◌, eqb, ltb, leb, List, length, Ok, Err, Result, sym, refl, ap, ◌∙◌, subst, arith}
use Rattle.std.proofs.lemmas.Bool.{or_from, lt-leb, le-ltb, eq-eqb, ne_eqb, eqb-true, cond-true, cond-false, le-leb, not_from_true, and_right, eqb-false, both_ways}
use Rattle.engine.specs.Lassos.{endless}
use Rattle.engine.specs.Satisfied.{quantifier}
use Rattle.logic.specs.Formulas.{Formula}
use Rattle.logic.specs.Kinds.{Kind, reach}
use Rattle.logic.specs.Kinds.Kind.{path}
use Rattle.logic.specs.Satisfaction.{degree}
use Rattle.logic.specs.Walks.{Walk, Operator}
use Rattle.logic.proofs.Outcomes.{inside}
use Rattle.model.specs.Faults.{Refusal}
use Rattle.model.specs.Meaning.{Meaning, Lawful}
use Rattle.scale.specs.Grades.{Grades, Lawful as Orderly}
use Rattle.sheet.specs.Calls.{refuse_if, byte_at, given, first_of, second_of, sound, fitting}
use Rattle.sheet.specs.Histories.{formula_at, formula_by, AsksWalks, Does, SomeWalkDoes, TrueWalk, WalkIsTrue}
use Rattle.sheet.specs.Kinds.{kind_of, operands_of, operator_of}
use Rattle.sheet.specs.States.{State}
use Rattle.sheet.specs.Walking.{record_of, asking, operands_now, leveled, walking, Wanted, WantedBy, Granted, Sought, WalksAfter, Walks}
use Rattle.sheet.specs.declared.row.Row.{Row}
use Rattle.sheet.proofs.Asked.{path_kind}
use Rattle.sheet.proofs.Exits.{goes}
use Rattle.sheet.proofs.Kept.{Kept, given_is, kept}
use Rattle.sheet.proofs.Laws.{fits, byte_low}
use Rattle.sheet.proofs.Resting.{by_kinds}
use Rattle.sheet.proofs.Showing.{OnPath, left_only, asks_kind, to_does, from-does}
use Rattle.sheet.proofs.Sound.{all_pass}

-- the operator of a kind's number
abbrev op_of : ℕ → Operator
op_of k = operator_of (cond (ltb k 11) (k - 6) (k - 11))

-- an operator that looks at its right operand has two
two_operands : (k : ℕ) → 1 ≤ k → k ≤ 15 → 6 ≤ k → left_only (op_of k) ≡ false → operands_of k ≡ 2
two_operands =
    by_kinds (λ k. 6 ≤ k → left_only (op_of k) ≡ false → operands_of k ≡ 2)
    (λ l e. absurd (omega arith)) (λ l e. absurd (omega arith)) (λ l e. absurd (omega arith)) (λ l e. absurd (omega arith)) (λ l e. absurd (omega arith))
    (λ l e. absurd (both_ways true e refl)) (λ l e. absurd (both_ways true e refl)) (λ l e. absurd (both_ways true e refl)) (λ l e. refl) (λ l e. refl)
    (λ l e. absurd (both_ways true e refl)) (λ l e. absurd (both_ways true e refl)) (λ l e. absurd (both_ways true e refl)) (λ l e. refl) (λ l e. refl)

done : (b : Bool) (e : Refusal) → b ≡ false → Ok tt ≡ refuse_if b e
done b e h = sym (ap (λ (b : Bool). refuse_if b e) h)

module _ (m : Meaning) (law : Lawful m) (g : Grades) (orderly : Orderly g) (s : State) (fs : List Formula) (K : Kept m g s fs) (r k l n : ℕ) (here : r < length fs)
    (asks : AsksWalks (formula_at fs r)) (state : k < m.states) (some : 1 ≤ l) (most : l ≤ g.levels) where
  abbrev x : Row
  x = record_of s r

  abbrev f : Formula
  f = formula_at fs x.a

  abbrev h : Formula
  h = formula_at fs x.b

  six : 6 ≤ x.kind
  six = asks_kind x.a x.kind f h (K.rows r here).some_kind (K.rows r here).last_kind (subst AsksWalks (K.rows r here).is asks)

  first : x.a < r
  first = (K.rows r here).first (λ e. omega (arith, six))

  sound-row : (i : ℕ) → i < length fs → sound s i ≡ true
  sound-row i q = sym (all_pass (λ j. leb (byte_at s i j) s.levels) s.states (λ j p. le-leb _ _ (byte_low m g s fs K i j q p)))

  -- on such a sheet no check refuses a lawful request
  fitting_is : Ok tt ≡ fitting s m g
  fitting_is = done _ _
      (or_from (not (eqb m.states s.states) || not (eqb m.props s.props)) (not (eqb g.levels s.levels))
      (or_from (not (eqb m.states s.states)) (not (eqb m.props s.props)) (not_from_true (eqb m.states s.states) (eq-eqb _ _ (sym K.states))) (not_from_true (eqb m.props s.props) (eq-eqb _ _ (sym K.props))))
      (not_from_true (eqb g.levels s.levels) (eq-eqb _ _ (sym K.levels))))

  asking_is : Ok tt ≡ asking s r k
  asking_is =
      goes (done _ _ (or_from (leb s.count r) (leb s.states k) (lt-leb _ _ (omega (arith, K.count))) (lt-leb _ _ (omega (arith, K.states)))))
      (goes (done _ _ (or_from (ltb (length s.records) s.count) (ltb (length s.degrees) (s.count * s.states)) (le-ltb _ _ (omega (arith, K.count, K.records))) (le-ltb _ _ (fits m g s fs K))))
      (done _ _ (or_from (ltb x.kind 6) (ltb 15 x.kind) (le-ltb _ _ six) (le-ltb _ _ (K.rows r here).last_kind))))

  second_is : (t : Bool) → eqb (operands_of x.kind) 2 ≡ t → cond t (leb r x.b) (not (eqb x.b 0)) ≡ false
  second_is true e = lt-leb r x.b ((K.rows r here).second (eqb-true (operands_of x.kind) 2 e))
  second_is false e = not_from_true (eqb x.b 0) (eq-eqb x.b 0 ((K.rows r here).unused (eqb-false (operands_of x.kind) 2 e)))

  bytes_is : (t : Bool) → eqb (operands_of x.kind) 2 ≡ t → (t && not (sound s x.b)) ≡ false
  bytes_is false e = refl
  bytes_is true e = not_from_true (sound s x.b) (sound-row x.b (omega (arith, (K.rows r here).second (eqb-true (operands_of x.kind) 2 e))))

  operands_is : Ok tt ≡ operands_now s r x
  operands_is =
      goes (done _ _ (or_from (leb r x.a) _ (lt-leb r x.a first) (second_is (eqb (operands_of x.kind) 2) refl)))
      (done _ _ (or_from (not (eqb x.kind 1) && not (sound s x.a)) (eqb (operands_of x.kind) 2 && not (sound s x.b))
      (and_right (not (eqb x.kind 1)) (not (sound s x.a)) (not_from_true (sound s x.a) (sound-row x.a (omega (arith, first))))) (bytes_is (eqb (operands_of x.kind) 2) refl)))

  leveled_is : 2 * m.states ≤ n → Ok tt ≡ leveled s l n
  leveled_is room =
      goes (done _ _ (or_from (ltb l 1) (ltb s.levels l) (le-ltb _ _ some) (le-ltb _ _ (omega (arith, K.levels))))) (done _ _ (le-ltb _ _ (omega (arith, K.states))))

  pub lawful_request : 2 * m.states ≤ n → Ok tt ≡ walking m g s r k l n
  lawful_request room =
      goes fitting_is (goes K.walkable (goes asking_is (goes operands_is (leveled_is room))))

  -- the bytes are the truth values along every walk
  module _ (π : ℕ → ℕ) (w : Walk m k π) where
    within : (i : ℕ) → π i < m.states
    within = inside m law k π w

    left : OnPath (reach (first_of s x) l) (reach (degree m g f) l) π
    left j = ap (leb l) (ap (λ (d : ℕ → ℕ). d (π j)) (cond-false (eqb x.kind 1) _ (given s x.a) (ne_eqb x.kind 1 (λ e. omega (arith, six)))) ∙ given_is K x.a (π j) (omega (arith, first)) (within j))

    right : left_only (op_of x.kind) ≡ false → OnPath (reach (second_of s x) l) (reach (degree m g h) l) π
    right e j =
        let two = two_operands x.kind (K.rows r here).some_kind (K.rows r here).last_kind six e in
        ap (leb l) (ap (λ (d : ℕ → ℕ). d (π j)) (cond-true (eqb (operands_of x.kind) 2) (given s x.b) _ (eq-eqb (operands_of x.kind) 2 two)) ∙ given_is K x.b (π j) (omega (arith, (K.rows r here).second two)) (within j))

    kind_is : kind_of x.kind x.a ≡ path (quantifier (ltb x.kind 11)) (op_of x.kind)
    kind_is = path_kind x.kind x.a six

    formula_is : formula_at fs r ≡ formula_by (path (quantifier (ltb x.kind 11)) (op_of x.kind)) f h
    formula_is = (K.rows r here).is ∙ ap (λ (c : Kind). formula_by c f h) kind_is

    pub wanted_does : WantedBy g s x l π → Does m g (formula_at fs r) l π
    wanted_does v =
        subst (λ (y : Formula). Does m g y l π) (sym formula_is)
        (to_does m law K.total g orderly l some most π within (quantifier (ltb x.kind 11)) f h (reach (first_of s x) l) (reach (second_of s x) l) left (op_of x.kind) right
        (subst (λ (c : Kind). Wanted c (g.reading l) (reach (first_of s x) l) (reach (second_of s x) l) π) kind_is v))

    pub does_wanted : Does m g (formula_at fs r) l π → WantedBy g s x l π
    does_wanted v =
        subst (λ (c : Kind). Wanted c (g.reading l) (reach (first_of s x) l) (reach (second_of s x) l) π) (sym kind_is)
        (from-does m law K.total g orderly l some most π within (quantifier (ltb x.kind 11)) f h (reach (first_of s x) l) (reach (second_of s x) l) left (op_of x.kind) right
        (subst (λ (y : Formula). Does m g y l π) formula_is v))

  pub true_walk : (ys xs : List ℕ) (answer : Result (ℕ × ℕ) Refusal) → Sought m (WantedBy g s x l) k ys xs answer → TrueWalk m g (formula_at fs r) l k ys xs answer
  true_walk ys xs (Ok c) G =
      let does = wanted_does (endless xs c.0 c.1) G.walk G.does in
      let one : SomeWalkDoes m g (formula_at fs r) l k = (endless xs c.0 c.1, G.walk, does) in
      record {
        granted = (λ _. (c.0, c.1, refl), λ _. one);
        shown = λ p d e.
            let same : c ≡ (p, d) = cc in
            subst (λ (c : ℕ × ℕ). Granted m (Does m g (formula_at fs r) l) k ys xs c.0 c.1) same (record { written = G.written; walk = G.walk; does = does });
        denied = λ none. absurd (none one);
      }
  true_walk ys xs (Err e) D =
      record {
        granted = (λ (π, w, v). absurd (D.none π w (does_wanted π w v)), λ (p, d, q). let z : ◌≡◌ {A = ℕ} 0 1 = cc in absurd (omega arith));
        shown = λ p d q. let z : ◌≡◌ {A = ℕ} 0 1 = cc in absurd (omega arith);
        denied = λ _. (ap Err D.number, D.same);
      }

pub walk_is_true : (m : Meaning) → Lawful m → (g : Grades) → Orderly g → (s : State) (r k l : ℕ) (ys xs : List ℕ) (answer : Result (ℕ × ℕ) Refusal) → Walks m g s r k l ys xs answer → WalkIsTrue s r k l ys xs answer m g
walk_is_true m law g orderly s r k l ys xs answer exact fs history here asks state some most room =
    let K = kept m law g orderly history in
    true_walk m law g orderly s fs K r k l (length ys) here asks state some most ys xs answer
    (subst (λ (a : Result Unit Refusal). WalksAfter a m (WantedBy g s (record_of s r) l) k ys xs answer) (sym (lawful_request m law g orderly s fs K r k l (length ys) here asks state some most room)) exact)
