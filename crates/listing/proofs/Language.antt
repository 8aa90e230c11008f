-- The listing call and the language of texts.
use Rattle.std.proofs.Common.{◌≡◌, ℕ, ◌+◌, ◌*◌, ◌≤◌, Bool, true, false, cond, not, ◌&&◌, ◌||◌, eqb, ltb, leb, List, [], ◌∷◌, ◌++◌, length, drop, replicate, Some, None, Ok, Err, Option, Result, sym, refl, ap, ◌∙◌, subst, arith}
use Rattle.std.specs.List.{between}
use Rattle.std.proofs.lemmas.Bool.{cond-false, le-ltb}
use Rattle.model.specs.Faults.{Refusal, refusal}
use Rattle.model.specs.Meaning.{Meaning}
use Rattle.model.specs.Walkable.{walkability, refused_at, dead_end}
use Rattle.scale.specs.Grades.{Grades}
use Rattle.sheet.specs.Calls.{refuse_if, and_then, open_answer, enter_answer, enter_leaves, degree_answer, entering, fitting, roomy, formed, byte_at}
use Rattle.sheet.specs.Kinds.{operands_of}
use Rattle.sheet.specs.States.{State}
use Rattle.sheet.specs.declared.row.Row.{Row}
use Rattle.text.specs.declared.fault.ReadFault.{ReadFault}
use Rattle.text.specs.declared.fault.ReadFault.TheVariants.{Form, Range, Many}
use Rattle.text.specs.declared.script.Ask.{Ask}
use Rattle.text.specs.Formulas.{row_for}
use Rattle.text.specs.Lines.{Said}
use Rattle.text.specs.Scripts.{Told, script_at, answer_of}
use Rattle.grammar.specs.Scripts.{Script, told}
use Rattle.grammar.specs.Spelling.{Spells}
use Rattle.grammar.specs.Lawful.{Lawful}
use Rattle.grammar.specs.Laws.{Unfit}
use Rattle.grammar.proofs.Binds.{clash}
use Rattle.grammar.proofs.Theorems.{read_where_lawful, form_fault_where_unfit}
use Rattle.listing.specs.declared.answers.Answer.{Answer}
use Rattle.listing.specs.Faults.{Telling, telling, placed}
use Rattle.listing.specs.Laws.{OfLanguage, ListedByLanguage}
use Rattle.listing.specs.Listings.{Given, lines_of, listing, script_of}
use Rattle.listing.specs.Places.{place_of}
use Rattle.listing.specs.Runs.{then, told_at, enter_all, ask_one, ask_from, ask_all, meaning_of, grades_of, answers_of}
use Rattle.listing.specs.Writing.{fault_line}

-- the sheet refuses with numbers from 1 to 13

abbrev pub From1To13 : {X E : Type 0} → (E → ℕ) → Result X E → Type 0
From1To13 number (Ok x) = Unit {0}
From1To13 number (Err e) = (1 ≤ number e) × (number e ≤ 13)

from_1_then : {X Y E : Type 0} (number : E → ℕ) (a : Result X E) (f : X → Result Y E) → From1To13 number a → ((x : X) → From1To13 number (f x)) → From1To13 number (then a f)
from_1_then number (Ok x) f h k = k x
from_1_then number (Err e) f h k = h

abbrev Low : {X : Type 0} → Result X Refusal → Type 0
Low = From1To13 (λ e. e.number)

low_if : (b : Bool) (e : Refusal) → 1 ≤ e.number → e.number ≤ 13 → Low (refuse_if b e)
low_if true e l h = (l, h)
low_if false e l h = tt

low_and : {X : Type 0} (a : Result Unit Refusal) (r : Result X Refusal) → Low a → Low r → Low (and_then a r)
low_and (Ok u) r h k = k
low_and (Err e) r h k = h

-- a check with the number n, and what follows it
low_check : {X : Type 0} (b : Bool) (n : ℕ) (r : Result X Refusal) → 1 ≤ n → n ≤ 13 → Low r → Low (and_then (refuse_if b (refusal n 0)) r)
low_check b n r l h k = low_and (refuse_if b (refusal n 0)) r (low_if b (refusal n 0) l h) k

low_dead : (o : Option ℕ) → Low (refused_at o)
low_dead None = tt
low_dead (Some s) = (omega arith, omega arith)

low_walk : (m : Meaning) → Low (walkability m)
low_walk m = go (eqb m.states 0)
  where
    go : (b : Bool) → Low (cond b (Err (refusal 1 0)) (refused_at (dead_end m)))
    go true = (omega arith, omega arith)
    go false = low_dead (dead_end m)

low_formed : (s : State) (x : Row) → Low (formed s x)
low_formed s x =
    low_check (ltb x.kind 1 || ltb 15 x.kind) 5 _ (omega arith) (omega arith)
    (low_check (eqb x.kind 1 && leb s.props x.a) 6 _ (omega arith) (omega arith)
    (low_if (not (eqb x.kind 1) && leb s.count x.a || cond (eqb (operands_of x.kind) 2) (leb s.count x.b) (not (eqb x.b 0))) (refusal 7 0) (omega arith) (omega arith)))

module _ (m : Meaning) (g : Grades) where
  low_open : (rs : List Row) (bs : List ℕ) → Low (open_answer m g rs bs)
  low_open rs bs = low_and (walkability m) _ (low_walk m) tt

  low_enter : (s : State) (x : Row) → Low (enter_answer m g s x)
  low_enter s x = low_and (entering m g s x) _
      (low_and (fitting s m g) _ (low_if _ (refusal 3 0) (omega arith) (omega arith)) (low_and (walkability m) _ (low_walk m) (low_and (roomy s) _ (low_if _ (refusal 4 0) (omega arith) (omega arith)) (low_and (formed s x) _ (low_formed s x) (low_if _ (refusal 9 0) (omega arith) (omega arith))))))
      tt

  low_degree : (s : State) (r k : ℕ) → Low (degree_answer s r k)
  low_degree s r k =
      low_check (leb s.count r || leb s.states k) 8 _ (omega arith) (omega arith)
      (low_check (ltb (length s.degrees) (s.count * s.states)) 4 _ (omega arith) (omega arith) (low_check (ltb s.levels (byte_at s r k)) 9 _ (omega arith) (omega arith) tt))

  low_all : (s : State) (xs : List Row) → Low (enter_all m g s xs)
  low_all s [] = tt
  low_all s (x ∷ xs) = from_1_then _ (enter_answer m g s x) _ (low_enter s x) (λ _. low_all (enter_leaves m g s x) xs)

  low_ask : (s : State) (xs : List Row) (a : Ask) → Low (ask_one m g s xs a)
  low_ask s xs a = from_1_then _ (enter_all m g s xs) _ (low_all s xs) (λ t. from_1_then _ (degree_answer t a.row a.state) _ (low_degree t a.row a.state) (λ _. tt))

-- and so does a run

abbrev pub Little : {X : Type 0} → Result X Telling → Type 0
Little = From1To13 (λ t. t.number)

little_at : {X : Type 0} (line : ℕ) (r : Result X Refusal) → Low r → Little (told_at line r)
little_at line (Ok x) h = tt
little_at line (Err e) h = h

module _ (m : Meaning) (g : Grades) where
  little_from : (rows : List Row) (s : State) (entered line : ℕ) (done : List Answer) (asks : List Ask) → Little (ask_from m g rows s entered line done asks)
  little_from rows s entered line done [] = tt
  little_from rows s entered line done (a ∷ asks) =
      from_1_then _ (told_at line (ask_one m g s (between entered (a.row + 1) rows) a)) _ (little_at line (ask_one m g s (between entered (a.row + 1) rows) a) (low_ask m g s _ a))
      (λ p. little_from rows p.0 (a.row + 1) (line + 1) (done ++ (p.1 ∷ [])) asks)

  pub little_run : (h : Said) → Little (ask_all m g h)
  little_run h =
      let open' = open_answer m g (replicate 32 (row_for 0 0 0)) (replicate 16384 0) in
      from_1_then _ (told_at 2 open') _ (little_at 2 open' (low_open m g (replicate 32 (row_for 0 0 0)) (replicate 16384 0))) (λ s. little_from h.rows s 0 _ [] h.asks)

abbrev pub on_scale : Told → List Answer → Result Given Telling
on_scale t l = Ok (record { levels = t.levels; list = l })

low_number : (r : Result Given Telling) → Little r → (lines_of r).1 ≤ 13
low_number (Ok a) h = omega arith
low_number (Err t) h = h.1

number_of : (t : Told) → (lines_of (then (answers_of t) (on_scale t))).1 ≤ 13
number_of t = low_number (then (answers_of t) (on_scale t))
    (from_1_then _ (answers_of t) (on_scale t) (little_run (meaning_of t.source t.said) (grades_of t.levels) t.said) (λ _. tt))

-- the law, by what the reader answers

module _ (text before : List ℕ) where
  abbrev pub out : Result Told ReadFault → List ℕ × ℕ
  out r = lines_of (then (script_of text r) (λ t. then (answers_of t) (on_scale t)))

  abbrev Says : List ℕ × ℕ → Type 0
  Says o = OfLanguage text before (length o.0) o.1 (o.0 ++ drop (length o.0) before)

  -- no lawful script is refused by the reader
  none : {A : Type 0} (e : ReadFault) → Err e ≡ answer_of (script_at text) → (s : Script) → Spells s text → Lawful s → A
  none e r s sp lawful =
      let is : answer_of (script_at text) ≡ Ok (told s) = (read_where_lawful text (told s)).1 (s, sp, lawful, refl) in
      clash cc

  by_fault : (e : ReadFault) → Err e ≡ answer_of (script_at text) → 15 ≤ (placed text e).number → (placed text e).number ≤ 17
      → ((placed text e).number ≡ 15 → (k : ℕ) × Unfit text k × (fault_line (placed text e) ++ drop (length (fault_line (placed text e))) before ≡ fault_line (telling 15 (place_of text k).0 (place_of text k).1 0) ++ drop (length (fault_line (placed text e))) before))
      → Says (out (Err e))
  by_fault e r low high unfit =
      record {
        accepted = (λ (s, sp, lawful) a b. none e r s sp lawful, λ h. absurd (h low high));
        scripted = λ s sp lawful. none e r s sp lawful;
        unfit = unfit;
      }

  by_answer : (r : Result Told ReadFault) → r ≡ answer_of (script_at text) → Says (out r)
  by_answer (Ok t) r =
      record {
        accepted = (λ _ a b. omega (arith, number_of t), λ _. let (s, sp, lawful, e) = (read_where_lawful text t).0 (sym r) in (s, sp, lawful));
        scripted = λ s sp lawful.
            let is : answer_of (script_at text) ≡ Ok (told s) = (read_where_lawful text (told s)).1 (s, sp, lawful, refl) in
            let same : t ≡ told s = cc in
            (ap (λ (t : Told). (out (Ok t)).1) same, ap (λ (t : Told). (out (Ok t)).0 ++ drop (length (out (Ok t)).0) before) same);
        unfit = λ e. absurd (omega (arith, number_of t));
      }
  by_answer (Err (Form k)) r = by_fault (Form k) r (omega arith) (omega arith) (λ e. (k, form_fault_where_unfit text k (sym r), refl))
  by_answer (Err (Range k)) r = by_fault (Range k) r (omega arith) (omega arith) (λ e. absurd (omega arith))
  by_answer (Err (Many k)) r = by_fault (Many k) r (omega arith) (omega arith) (λ e. absurd (omega arith))

  -- what the call gives where neither length is refused
  abbrev pub shown : List ℕ × ℕ → ℕ × ℕ × List ℕ
  shown o = (length o.0, o.1, o.0 ++ drop (length o.0) before)

  pub listing_is : length text ≤ 16384 → 256 ≤ length before → listing text before ≡ shown (out (answer_of (script_at text)))
  listing_is h k =
      cond-false (ltb (length before) 256) _ _ (le-ltb (length before) 256 k)
      ∙ ap (λ (r : Result Given Telling). shown (lines_of r)) (cond-false (ltb 16384 (length text)) _ _ (le-ltb 16384 (length text) h))

  pub by_language : (w n : ℕ) (after : List ℕ) → (w, n, after) ≡ listing text before → ListedByLanguage text before w n after
  by_language w n after e h k =
      subst (λ (o : ℕ × ℕ × List ℕ). OfLanguage text before o.0 o.1 o.2) (sym (e ∙ listing_is h k)) (by_answer (answer_of (script_at text)) refl)
