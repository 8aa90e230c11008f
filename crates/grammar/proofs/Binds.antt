-- Readers made of readers: one after another, or one of two.
use Rattle.std.proofs.Common.{◌≡◌, ℕ, Bool, true, false, cond, eqb, List, [], ◌∷◌, ◌++◌, Some, None, Ok, Err, sym, refl, ap, ◌∙◌, subst, ⊎_elim, append_assoc, append-nil, arith}
use mathlib.Core.Path.{fun_ext}
use Rattle.std.proofs.lemmas.Bool.{cond-true, cond-false, cases_Bool, both_ways, false≢true}
use Rattle.text.specs.declared.fault.ReadFault.TheVariants.{Form, Range, Many}
use Rattle.text.specs.Reads.{Got, head_of, and_then, begins_with, choose}
use Rattle.grammar.specs.Languages.{Language, Then}
use Rattle.grammar.proofs.Readings.{Lang, Strictly, Nonempty, Both, Other, Out, read, stop, past, Law, Fine, Reads}

-- anything follows from 0 ≡ 1, which cc gives where two different constructors are equal
pub clash : {A : Type 0} → ◌≡◌ {A = ℕ} 0 1 → A
clash z = absurd (omega arith)

-- first bytes

pub none_head : (q : List ℕ) → None ≡ head_of q → q ≡ []
none_head [] h = refl
none_head (b ∷ q) h = clash cc

pub some_head : (b : ℕ) (q : List ℕ) → Some b ≡ head_of q → (t : List ℕ) × (q ≡ b ∷ t)
some_head b [] h = clash cc
some_head b (c ∷ q) h = let e : c ≡ b = cc in (q, ap (λ y. y ∷ q) e)

-- lists that begin with w, and then alike, begin alike
pub same_head : (w r q : List ℕ) → head_of r ≡ head_of q → head_of (w ++ r) ≡ head_of (w ++ q)
same_head [] r q h = h
same_head (b ∷ w) r q h = refl

-- a word whose test fails need not be lawful
pub lenient : (b t : Bool) → Strictly b (t ≡ true) → t ≡ false → b ≡ false
lenient true t s f = absurd (both_ways t f (s refl))
lenient false t s f = refl

-- a byte is taken, and the rest is read as H reads it
module _ {T : Type 0} {G H : List ℕ → Got T} {S R : Lang T} (b : ℕ) (same : (q : List ℕ) → G (b ∷ q) ≡ H q) (longer : (t : Bool) (x : T) (w : List ℕ) → R t x w → S t x (b ∷ w)) where
  pub one_byte : {bs : List ℕ} → Out H R bs → Out G S (b ∷ bs)
  one_byte (read w r x e s f) = read (b ∷ w) r x (ap (λ l. b ∷ l) e) (λ t. longer t x w (s t)) (λ q h. same (w ++ q) ∙ f q h)
  one_byte (stop w r e (x, u, s) f) = stop (b ∷ w) r (ap (λ l. b ∷ l) e) (x, u, longer false x (w ++ u) s) (λ q h. same (w ++ q) ∙ f q h)
  one_byte {bs} (past o) = past (subst Other (sym (same bs)) o)

-- one after another

other_then : {T U : Type 0} (g : Got T) (K : T → List ℕ → Got U) → Other g → Other (and_then g K)
other_then (Ok p) K o = absurd o
other_then (Err (Form k)) K o = absurd o
other_then (Err (Range k)) K o = tt
other_then (Err (Many k)) K o = tt

fine_then : {T U : Type 0} (b : Bool) (g : Got T) (K : T → List ℕ → Got U) (x : T) (z : U) (r left : List ℕ) → Fine b g x r → Fine b (K x r) z left → Fine b (and_then g K) z left
fine_then b (Ok p) K x z r left e h = subst (λ y. Fine b (K y.0 y.1) z left) (sym e) h
fine_then b (Err (Form k)) K x z r left e h = absurd e
fine_then b (Err (Range k)) K x z r left e h = e
fine_then b (Err (Many k)) K x z r left e h = e

module _ {T U : Type 0} (G : List ℕ → Got T) (K : T → List ℕ → Got U) (S : Lang T) (R : T → Lang U) where
  after_read : {bs : List ℕ} (w r : List ℕ) (x : T) → bs ≡ w ++ r → ((b : Bool) → S b x w) → ((q : List ℕ) → head_of r ≡ head_of q → G (w ++ q) ≡ Ok (x, q)) → Out (K x) (R x) r → Out (λ l. and_then (G l) K) (Both S R) bs
  after_read w r x e s f (read v r2 z e2 s2 f2) =
      read (w ++ v) r2 z (e ∙ ap (λ l. w ++ l) e2 ∙ sym (append_assoc w v r2)) (λ b. (x, (w, v, refl, s b, s2 b)))
      (λ q h. ap (λ l. and_then (G l) K) (append_assoc w v q) ∙ ap (λ g. and_then g K) (f (v ++ q) (ap head_of e2 ∙ same_head v r2 q h)) ∙ f2 q h)
  after_read w r x e s f (stop v r2 e2 (z, u, t) f2) =
      stop (w ++ v) r2 (e ∙ ap (λ l. w ++ l) e2 ∙ sym (append_assoc w v r2)) (z, u, (x, (w, v ++ u, append_assoc w v u, s false, t)))
      (λ q h. ap (λ l. and_then (G l) K) (append_assoc w v q) ∙ ap (λ g. and_then g K) (f (v ++ q) (ap head_of e2 ∙ same_head v r2 q h)) ∙ f2 q h)
  after_read w r x e s f (past o) = past (subst Other (sym (ap (λ l. and_then (G l) K) e ∙ ap (λ g. and_then g K) (f r refl))) o)

  pub law_bind : Law G S → ((x : T) → Law (K x) (R x)) → ((x : T) → Nonempty (R x)) → Law (λ l. and_then (G l) K) (Both S R)
  law_bind one two some bs = from (one bs)
    where
      from : Out G S bs → Out (λ l. and_then (G l) K) (Both S R) bs
      from (read w r x e s f) = after_read w r x e s f (two x r)
      from (stop w r e (x, u, s) f) =
          let (z, v, t) = some x in
          stop w r e (z, u ++ v, (x, (w ++ u, v, sym (append_assoc w u v), s, t))) (λ q h. ap (λ g. and_then g K) (f q h))
      from (past o) = past (other_then (G bs) K o)

module _ {T U : Type 0} {G : List ℕ → Got T} {K : T → List ℕ → Got U} {S : Lang T} {R : T → Lang U} {A B F : Language} where
  pub bind : Reads G S A B → ((x : T) → Reads (K x) (R x) B F) → Reads (λ l. and_then (G l) K) (Both S R) A F
  bind one two =
      record {
        law = law_bind G K S R one.law (λ x. (two x).law) (λ x. (two x).some);
        full = λ b z w left (x, (u, v, e, s, t)) h.
            subst (λ l. Fine b (and_then (G l) K) z left) (sym (ap (λ l. l ++ left) e ∙ append_assoc u v left))
            (fine_then b (G (u ++ (v ++ left))) K x z (v ++ left) left (one.full b x u (v ++ left) s ((two x).start b z v left t h)) ((two x).full b z v left t h));
        start = λ b z w left (x, (u, v, e, s, t)) h.
            subst A (sym (ap (λ l. l ++ left) e ∙ append_assoc u v left)) (one.start b x u (v ++ left) s ((two x).start b z v left t h));
        some = let (x, u, s) = one.some in let (z, v, t) = (two x).some in (z, u ++ v, (x, (u, v, refl, s, t)));
      }

-- the same reader, another way to say what it reads

module _ {T : Type 0} {G : List ℕ → Got T} {S R : Lang T} where
  pub law_map : ((b : Bool) (x : T) (w : List ℕ) → S b x w → R b x w) → Law G S → Law G R
  law_map to law bs = from (law bs)
    where
      from : Out G S bs → Out G R bs
      from (read w r x e s f) = read w r x e (λ b. to b x w (s b)) f
      from (stop w r e (x, u, s) f) = stop w r e (x, u, to false x (w ++ u) s) f
      from (past o) = past o

  pub reads_map : {A F : Language} → ((b : Bool) (x : T) (w : List ℕ) → S b x w → R b x w) → ((b : Bool) (x : T) (w : List ℕ) → R b x w → S b x w) → Reads G S A F → Reads G R A F
  reads_map to back reads =
      record {
        law = law_map to reads.law;
        full = λ b x w left s. reads.full b x w left (back b x w s);
        start = λ b x w left s. reads.start b x w left (back b x w s);
        some = let (x, w, s) = reads.some in (x, w, to false x w s);
      }

pub reads_same : {T : Type 0} {G H : List ℕ → Got T} {S : Lang T} {A F : Language} → ((l : List ℕ) → G l ≡ H l) → Reads G S A F → Reads H S A F
reads_same {S = S} {A = A} {F = F} same = subst (λ X. Reads X S A F) (fun_ext same)

-- a part without a value, and then one with
pub then : {U : Type 0} {P : List ℕ → Got (Unit {0})} {G : List ℕ → Got U} {L : Bool → Language} {S : Lang U} {A B F : Language} → Reads P (λ b _. L b) A B → Reads G S B F → Reads (λ l. and_then (P l) (λ _. G)) (λ b z. Then (L b) (S b z)) A F
then one two = reads_map (λ b z w (x, t). t) (λ b z w t. (tt, t)) (bind one (λ _. two))

-- nothing is read, and x is the value
done : {T : Type 0} {F : Language} (x : T) → Reads (λ l. Ok (x, l)) (λ b z w. (z ≡ x) × (w ≡ [])) F F
done {F = F} x =
    record {
      law = λ bs. read [] bs x refl (λ b. (refl, refl)) (λ q h. refl);
      full = λ b z w left (e, k) h. let back = sym e in λ i. (back i, k i ++ left);
      start = λ b z w left (e, k) h. subst (λ l. F (l ++ left)) (sym k) h;
      some = (x, [], (refl, refl));
    }

-- what f makes of the value
pub value : {T U : Type 0} {G : List ℕ → Got T} {S : Lang T} {A F : Language} (f : T → U) → Reads G S A F → Reads (λ l. and_then (G l) (λ x left. Ok (f x, left))) (λ b z w. (x : T) × (z ≡ f x) × S b x w) A F
value {S = S} f reads =
    reads_map
    (λ b z w (x, (u, v, e, s, (ze, ve))). (x, ze, subst (S b x) (sym (e ∙ ap (λ l. u ++ l) ve ∙ append-nil u)) s))
    (λ b z w (x, ze, s). (x, (w, [], sym (append-nil w), s, (ze, refl))))
    (bind reads (λ x. done (f x)))

-- one of two

-- whether bytes begin with c shows at the first
begins_alike : (c : ℕ) (l q : List ℕ) → head_of l ≡ head_of q → begins_with c l ≡ begins_with c q
begins_alike c [] q h = subst (λ y. false ≡ begins_with c y) (sym (none_head q h)) refl
begins_alike c (b ∷ l) q h = let t = some_head b q h in subst (λ y. eqb b c ≡ begins_with c y) (sym t.1) refl

pub law_choose : {T : Type 0} (c : ℕ) {G H : List ℕ → Got T} {S : Lang T} → Law G S → Law H S → Law (choose c G H) S
law_choose {T} c {G} {H} {S} one two bs = ⊎_elim (λ t. on t (one bs)) (λ t. off t (two bs)) (cases_Bool (begins_with c bs))
  where
    alike : (w r q : List ℕ) → bs ≡ w ++ r → head_of r ≡ head_of q → begins_with c (w ++ q) ≡ begins_with c bs
    alike w r q e h = sym (ap (begins_with c) e ∙ begins_alike c (w ++ r) (w ++ q) (same_head w r q h))

    on : begins_with c bs ≡ true → Out G S bs → Out (choose c G H) S bs
    on t (read w r x e s f) = read w r x e s (λ q h. cond-true (begins_with c (w ++ q)) _ _ (alike w r q e h ∙ t) ∙ f q h)
    on t (stop w r e s f) = stop w r e s (λ q h. cond-true (begins_with c (w ++ q)) _ _ (alike w r q e h ∙ t) ∙ f q h)
    on t (past o) = past (subst Other (sym (cond-true (begins_with c bs) _ _ t)) o)

    off : begins_with c bs ≡ false → Out H S bs → Out (choose c G H) S bs
    off t (read w r x e s f) = read w r x e s (λ q h. cond-false (begins_with c (w ++ q)) _ _ (alike w r q e h ∙ t) ∙ f q h)
    off t (stop w r e s f) = stop w r e s (λ q h. cond-false (begins_with c (w ++ q)) _ _ (alike w r q e h ∙ t) ∙ f q h)
    off t (past o) = past (subst Other (sym (cond-false (begins_with c bs) _ _ t)) o)

-- a test decides

pub law_test : {T : Type 0} {G H : List ℕ → Got T} {S : Lang T} (t : Bool) → (t ≡ true → Law G S) → Law H S → Law (λ l. cond t (G l) (H l)) S
law_test true one two = one refl
law_test false one two = two

pub either : {T : Type 0} {G H : List ℕ → Got T} {S R : Lang T} {A F : Language} (t : Bool) → Reads G S A F → Reads H R A F → Reads (λ l. cond t (G l) (H l)) (λ b x w. cond t (S b x w) (R b x w)) A F
either true one two = one
either false one two = two

-- G, but too many where the list for it is full
pub unless : {T : Type 0} {G : List ℕ → Got T} {S : Lang T} {A F : Language} (full : Bool) (place : ℕ) → Reads G S A F → Reads (λ l. cond full (Err (Many place)) (G l)) (λ b x w. S b x w × Strictly b (full ≡ false)) A F
unless true place reads =
    record {
      law = λ bs. past tt;
      full = λ b x w left (s, room) h. lenient b false (λ e. sym (room e)) refl;
      start = λ b x w left (s, room). reads.start b x w left s;
      some = let (x, w, s) = reads.some in (x, w, (s, λ e. absurd (false≢true e)));
    }
unless false place reads = reads_map (λ b x w s. (s, λ _. refl)) (λ b x w s. s.0) reads
