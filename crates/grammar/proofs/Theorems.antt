-- What the reader owes to the language of texts.
use Rattle.std.proofs.Common.{◌≡◌, ℕ, zero, suc, Bool, true, false, List, [], ◌∷◌, ◌++◌, length, Ok, Err, sym, refl, ap, ◌∙◌, subst, append_assoc, append-nil}
use Rattle.std.proofs.lemmas.Bool.{true≢false, false≢true}
use Rattle.text.specs.declared.fault.ReadFault.TheVariants.{Form, Range, Many}
use Rattle.text.specs.declared.script.Source.{Source}
use Rattle.text.specs.Reads.{Got, head_of, and_then}
use Rattle.text.specs.Lines.{Said, nothing, scale_at, source_at, line_at, lines_at}
use Rattle.text.specs.Scripts.{Told, script_at, answer_of}
use Rattle.grammar.specs.Scripts.{Script, told}
use Rattle.grammar.specs.Spelling.{Spells}
use Rattle.grammar.specs.Laws.{ReadWhereLawful, Unfit, FormFaultWhereUnfit}
use Rattle.grammar.proofs.Readings.{Other, Out, read, stop, past, Fine}
use Rattle.grammar.proofs.Binds.{clash}
use Rattle.grammar.proofs.Scripts.{Scripts, script_reads}

-- nothing is left of a text that was read

abbrev Ends : {T : Type 0} → Got T → Type 0
Ends (Ok p) = p.1 ≡ []
Ends (Err e) = Unit {0}

ends_then : {T U : Type 0} (g : Got T) (K : T → List ℕ → Got U) → ((x : T) (l : List ℕ) → Ends (K x l)) → Ends (and_then g K)
ends_then (Ok p) K ends = ends p.0 p.1
ends_then (Err e) K ends = tt

ends_value : {T U : Type 0} (f : T → U) (g : Got T) → Ends g → Ends (and_then g (λ x left. Ok (f x, left)))
ends_value f (Ok p) ends = ends
ends_value f (Err e) ends = tt

lines_end : (m : Source) (k : ℕ) (h : Said) (l : List ℕ) → Ends (lines_at m k h l)
lines_end m k h [] = refl
lines_end m zero h (b ∷ l) = tt
lines_end m (suc k) h (b ∷ l) = ends_then (line_at m h (b ∷ l)) (lines_at m k) (lines_end m k)

script_ends : (bs : List ℕ) → Ends (script_at bs)
script_ends bs = ends_then (scale_at bs) _ (λ d b1. ends_then (source_at b1) _ (λ m b2. ends_value (λ h. record { levels = d; source = m; said = h }) _ (lines_end m 2057 nothing b2)))

-- what an answer says of what was got

was_read : {T : Type 0} (x : T) (g : Got T) → Ends g → answer_of g ≡ Ok x → g ≡ Ok (x, [])
was_read x (Ok p) ends a = let e : p.0 ≡ x = cc in λ i. Ok (e i, ends i)
was_read x (Err e) ends a = clash cc

was_unfit : {T : Type 0} (k : ℕ) (g : Got T) → answer_of g ≡ Err (Form k) → g ≡ Err (Form k)
was_unfit k (Ok p) a = clash cc
was_unfit k (Err e) a = let d : e ≡ Form k = cc in ap Err d

answered : {T : Type 0} (x : T) (g : Got T) → Fine true g x [] → answer_of g ≡ Ok x
answered x (Ok p) e = ap (λ y. Ok y.0) e
answered x (Err (Form k)) e = absurd e
answered x (Err (Range k)) e = absurd (true≢false e)
answered x (Err (Many k)) e = absurd (true≢false e)

-- a spelled script, with nothing behind it
whole : (b : Bool) (t : Told) (w : List ℕ) → Scripts b t w → Fine b (script_at w) t []
whole b t w s = subst (λ l. Fine b (script_at l) t []) (append-nil w) (script_reads.full b t w [] s refl)

as_scripts : (s : Script) (w : List ℕ) → Spells s w → Scripts false (told s) w
as_scripts s w sp = (s, refl, sp, λ e. absurd (false≢true e))

sound : (bs : List ℕ) (t : Told) → script_at bs ≡ Ok (t, []) → Out script_at Scripts bs → Scripts true t bs
sound bs t g (read w r x e s f) =
    let same : ◌≡◌ {A = Got Told} (Ok (x, r)) (Ok (t, [])) = sym (f r refl) ∙ ap script_at (sym e) ∙ g in
    let pair : ◌≡◌ {A = Told × List ℕ} (x, r) (t, []) = cc in
    subst (λ y. Scripts true y bs) (ap (λ y. y.0) pair) (subst (Scripts true x) (sym (e ∙ ap (λ y. w ++ y.1) pair ∙ append-nil w)) (s true))
sound bs t g (stop w r e s f) =
    let differ : ◌≡◌ {A = Got Told} (Err (Form (length r))) (Ok (t, [])) = sym (f r refl) ∙ ap script_at (sym e) ∙ g in
    clash cc
sound bs t g (past o) = absurd (subst Other g o)

unfit : (bs : List ℕ) (k : ℕ) → script_at bs ≡ Err (Form k) → Out script_at Scripts bs → Unfit bs k
unfit bs k g (read w r x e s f) =
    let differ : ◌≡◌ {A = Got Told} (Ok (x, r)) (Err (Form k)) = sym (f r refl) ∙ ap script_at (sym e) ∙ g in
    clash cc
unfit bs k g (stop w r e (t, u, (s, te, sp, lawful)) f) =
    let same : ◌≡◌ {A = Got Told} (Err (Form (length r))) (Err (Form k)) = sym (f r refl) ∙ ap script_at (sym e) ∙ g in
    let long : length r ≡ k = cc in
    record {
      before = w;
      rest = r;
      splits = e;
      place = long;
      begun = (s, u, sp);
      dead = λ c more is (s, u, sp). subst (λ l. Fine false l (told s) []) (ap script_at (append_assoc w (c ∷ []) u) ∙ f (c ∷ u) (ap head_of is)) (whole false (told s) ((w ++ (c ∷ [])) ++ u) (as_scripts s _ sp));
      early = λ is s sp. subst (λ l. Fine false l (told s) []) (ap script_at (sym (append-nil w)) ∙ f [] (ap head_of is)) (whole false (told s) w (as_scripts s w sp));
    }
unfit bs k g (past o) = absurd (subst Other g o)

pub read_where_lawful : ReadWhereLawful
read_where_lawful bs t = (
  λ a. let (s, te, sp, lawful) = sound bs t (was_read t (script_at bs) (script_ends bs) a) (script_reads.law bs) in (s, sp, lawful refl, te),
  λ (s, sp, lawful, te). answered t (script_at bs) (whole true t bs (s, te, sp, λ _. lawful)),
)

pub form_fault_where_unfit : FormFaultWhereUnfit
form_fault_where_unfit bs k a = unfit bs k (was_unfit k (script_at bs) a) (script_reads.law bs)
