-- Words and gaps.
use Rattle.std.proofs.Common.{◌≡◌, ℕ, eqb, List, [], ◌∷◌, ◌++◌, Some, None, Ok, Option, sym, refl, ap, ◌∙◌, subst, ⊎_elim}
use Rattle.std.proofs.lemmas.Bool.{cases_eq, eq-eqb, ne_eqb, cond-true, cond-false}
use Rattle.text.specs.Reads.{Got, Part, head_of, need, word_at, gap_at, spaces}
use Rattle.grammar.specs.Languages.{Language, Word, Spaces, Gap}
use Rattle.grammar.proofs.Readings.{Lang, Out, read, stop, Law, Fine, Reads, Any, NoSpace}
use Rattle.grammar.proofs.Binds.{none_head, some_head, one_byte}

-- what a part gives where it takes no byte: at the end, and before a byte

module _ {T : Type 0} (P : List ℕ → Part T) (o : Option T) where
  pub at_end : P [] ≡ (o, []) → (q : List ℕ) → None ≡ head_of q → need (P q) ≡ need (o, q)
  at_end e q h = subst (λ l. need (P l) ≡ need (o, l)) (sym (none_head q h)) (ap need e)

  pub at_byte : (b : ℕ) → ((t : List ℕ) → P (b ∷ t) ≡ (o, b ∷ t)) → (q : List ℕ) → Some b ≡ head_of q → need (P q) ≡ need (o, q)
  at_byte b e q h = let t = some_head b q h in subst (λ l. need (P l) ≡ need (o, l)) (sym t.1) (ap need (e t.0))

-- a word

word_same : (c : ℕ) (cs q : List ℕ) → word_at (c ∷ cs) (c ∷ q) ≡ word_at cs q
word_same c cs q = cond-true (eqb c c) _ _ (eq-eqb c c refl)

word_other : (b c : ℕ) (cs : List ℕ) → (b ≡ c → ⊥) → (q : List ℕ) → word_at (c ∷ cs) (b ∷ q) ≡ (None, b ∷ q)
word_other b c cs ne q = cond-false (eqb b c) _ _ (ne_eqb b c ne)

abbrev word_read : List ℕ → List ℕ → Got (Unit {0})
word_read cs l = need (word_at cs l)

abbrev Spelled : List ℕ → Lang (Unit {0})
Spelled cs b x = Word cs

pub law_word : (cs : List ℕ) → Law (word_read cs) (Spelled cs)
law_word [] bs = read [] bs tt refl (λ b. refl) (λ q h. refl)
law_word (c ∷ cs) [] = stop [] [] refl (tt, c ∷ cs, refl) (at_end (word_at (c ∷ cs)) None refl)
law_word (c ∷ cs) (b ∷ bs) = ⊎_elim (λ e. more e (law_word cs bs)) unlike (cases_eq b c)
  where
    more : b ≡ c → Out (word_read cs) (Spelled cs) bs → Out (word_read (c ∷ cs)) (Spelled (c ∷ cs)) (b ∷ bs)
    more e o =
        subst (λ y. Out (word_read (c ∷ cs)) (Spelled (c ∷ cs)) (y ∷ bs)) (sym e)
        (one_byte c (λ q. ap need (word_same c cs q)) (λ t x w s. ap (λ l. c ∷ l) s) o)

    unlike : (b ≡ c → ⊥) → Out (word_read (c ∷ cs)) (Spelled (c ∷ cs)) (b ∷ bs)
    unlike ne = stop [] (b ∷ bs) refl (tt, c ∷ cs, refl) (at_byte (word_at (c ∷ cs)) None b (word_other b c cs ne))

word_on : (cs left : List ℕ) → word_at cs (cs ++ left) ≡ (Some tt, left)
word_on [] left = refl
word_on (c ∷ cs) left = word_same c cs (cs ++ left) ∙ word_on cs left

pub word_reads : (A : Language) (cs : List ℕ) → ((left : List ℕ) → A (cs ++ left)) → Reads (word_read cs) (Spelled cs) A Any
word_reads A cs first =
    record {
      law = law_word cs;
      full = λ b x w left e h. subst (λ l. Fine b (word_read cs (l ++ left)) tt left) (sym e) (subst (λ p. Fine b (need p) tt left) (sym (word_on cs left)) refl);
      start = λ b x w left e h. subst (λ l. A (l ++ left)) (sym e) (first left);
      some = (tt, cs, refl);
    }

-- a gap

space_none : (b : ℕ) (q : List ℕ) → (b ≡ 32 → ⊥) → spaces (b ∷ q) ≡ b ∷ q
space_none b q ne = cond-false (eqb b 32) _ _ (ne_eqb b 32 ne)

-- the spaces that bytes begin with
record Run (bs : List ℕ) : Type 0 where
  run : List ℕ
  rest : List ℕ
  is : bs ≡ run ++ rest
  all : Spaces run
  alike : (q : List ℕ) → head_of rest ≡ head_of q → spaces (run ++ q) ≡ q

runs : (bs : List ℕ) → Run bs
runs [] = record { run = []; rest = []; is = refl; all = tt; alike = λ q h. subst (λ l. spaces l ≡ l) (sym (none_head q h)) refl }
runs (b ∷ bs) = ⊎_elim (λ e. on e (runs bs)) off (cases_eq b 32)
  where
    on : b ≡ 32 → Run bs → Run (b ∷ bs)
    on e u = record { run = 32 ∷ u.run; rest = u.rest; is = λ i. e i ∷ u.is i; all = (refl, u.all); alike = u.alike }

    off : (b ≡ 32 → ⊥) → Run (b ∷ bs)
    off ne =
        record {
          run = [];
          rest = b ∷ bs;
          is = refl;
          all = tt;
          alike = λ q h. let t = some_head b q h in subst (λ l. spaces l ≡ l) (sym t.1) (space_none b t.0 ne);
        }

abbrev gap_read : List ℕ → Got (Unit {0})
gap_read l = need (gap_at l)

abbrev Gaps : Lang (Unit {0})
Gaps b x = Gap

law_gap : Law gap_read Gaps
law_gap [] = stop [] [] refl (tt, 32 ∷ [], (refl, tt)) (at_end gap_at None refl)
law_gap (b ∷ bs) = ⊎_elim (λ e. on e (runs bs)) off (cases_eq b 32)
  where
    on : b ≡ 32 → Run bs → Out gap_read Gaps (b ∷ bs)
    on e u = read (32 ∷ u.run) u.rest tt (λ i. e i ∷ u.is i) (λ t. (refl, u.all)) (λ q h. ap (λ l. Ok (tt, l)) (u.alike q h))

    off : (b ≡ 32 → ⊥) → Out gap_read Gaps (b ∷ bs)
    off ne = stop [] (b ∷ bs) refl (tt, 32 ∷ [], (refl, tt)) (at_byte gap_at None b (λ t. cond-false (eqb b 32) _ _ (ne_eqb b 32 ne)))

spaces-end : (w left : List ℕ) → Spaces w → NoSpace left → spaces (w ++ left) ≡ left
spaces-end [] [] a h = refl
spaces-end [] (b ∷ left) a h = space_none b left h
spaces-end (b ∷ w) left a h = subst (λ y. spaces (y ∷ (w ++ left)) ≡ left) (sym a.0) (spaces-end w left a.1 h)

gap_on : (w left : List ℕ) → Gap w → NoSpace left → gap_at (w ++ left) ≡ (Some tt, left)
gap_on [] left s h = absurd s
gap_on (b ∷ w) left s h = subst (λ y. gap_at (y ∷ (w ++ left)) ≡ (Some tt, left)) (sym s.0) (ap (λ l. (Some tt, l)) (spaces-end w left s.1 h))

gap_first : (A : Language) → ((left : List ℕ) → A (32 ∷ left)) → (w left : List ℕ) → Gap w → A (w ++ left)
gap_first A first [] left g = absurd g
gap_first A first (b ∷ w) left g = subst (λ y. A (y ∷ (w ++ left))) (sym g.0) (first (w ++ left))

pub gap_reads : (A : Language) → ((left : List ℕ) → A (32 ∷ left)) → Reads gap_read Gaps A NoSpace
gap_reads A first =
    record {
      law = law_gap;
      full = λ b x w left s h. subst (λ p. Fine b (need p) tt left) (sym (gap_on w left s h)) refl;
      start = λ b x w left s h. gap_first A first w left s;
      some = (tt, 32 ∷ [], (refl, tt));
    }
