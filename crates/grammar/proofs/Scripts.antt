-- The line of the scale, the line of the model, and a whole script.
use Rattle.std.proofs.Common.{◌≡◌, ℕ, ◌<◌, ◌≤◌, true, false, eqb, ◌⊎◌, List, [], ◌∷◌, Ok, codes, sym, refl, ap, ◌∙◌, subst, inl, inr, ⊎_elim, arith}
use Rattle.std.proofs.lemmas.Bool.{cond-true, cond-false, eq-eqb, eqb-true, or_cases, or_left, or_right, false≢true}
use Rattle.text.specs.declared.script.Source.{Source}
use Rattle.text.specs.declared.script.Source.TheVariants.{Table, Pool}
use Rattle.text.specs.Reads.{and_then, choose, within}
use Rattle.text.specs.Lines.{nothing, is_scale, pair_at, scale_at, table_at, pool_at, source_at}
use Rattle.text.specs.Scripts.{Told, script_at}
use Rattle.grammar.specs.Languages.{Language, Then, Word, Gap, Numeral}
use Rattle.grammar.specs.Scripts.{Line, Question, Script, told}
use Rattle.grammar.specs.Spelling.{End, PairSpelled, SourceSpelled, Spells}
use Rattle.grammar.specs.Lawful.{Lawful, SourceInRange}
use Rattle.grammar.proofs.Readings.{Lang, Strictly, Law, Fine, Full, Reads, Any, Nothing, NoDigit}
use Rattle.grammar.proofs.Binds.{bind, then, value, reads_map, law_map, law_choose}
use Rattle.grammar.proofs.Words.{word_reads, gap_reads}
use Rattle.grammar.proofs.Numbers.{number_reads}
use Rattle.grammar.proofs.Heads.{end_reads, first_letter, bracket_on, bracket_off, pair_reads, inside, is_inside}
use Rattle.grammar.proofs.Counts.{lines-count, Fits}
use Rattle.grammar.proofs.Texts.{lines_reads}

-- the scale

scale_passed : (d : ℕ) → is_scale d ≡ true → (d ≡ 1) ⊎ (d ≡ 4)
scale_passed d t = ⊎_elim (λ e. inl (eqb-true d 1 e)) (λ e. inr (eqb-true d 4 e)) (or_cases (eqb d 1) (eqb d 4) t)

scale_passes : (d : ℕ) → (d ≡ 1) ⊎ (d ≡ 4) → is_scale d ≡ true
scale_passes d = ⊎_elim (λ e. or_left (eqb d 1) (eqb d 4) (eq-eqb d 1 e)) (λ e. or_right (eqb d 1) (eqb d 4) (eq-eqb d 4 e))

abbrev Scales : Lang ℕ
Scales b d w = Then (Word (codes "(scale")) (Then Gap (Then (Numeral d) End)) w × Strictly b ((d ≡ 1) ⊎ (d ≡ 4))

scale_reads : Reads scale_at Scales Any Any
scale_reads =
    reads_map
    (λ b z w (u, v, e, s, (u2, v2, e2, s2, (d, (u3, v3, e3, (s3, ok), (_, ze, end))))).
    subst (λ y. Scales b y w) (sym ze) ((u, v, e, s, (u2, v2, e2, s2, (u3, v3, e3, s3, end))), λ strict. scale_passed d (ok strict)))
    (λ b z w ((u, v, e, s, (u2, v2, e2, s2, (u3, v3, e3, s3, end))), ok). (u, v, e, s, (u2, v2, e2, s2, (z, (u3, v3, e3, (s3, λ strict. scale_passes z (ok strict)), (tt, refl, end))))))
    (then (word_reads Any (codes "(scale") (λ _. tt)) (then (gap_reads Any (λ _. tt)) (bind (number_reads is_scale) (λ d. value (λ _. d) (end_reads NoDigit (λ _. refl))))))

-- the model

abbrev Unopened : Source → Language
Unopened (Table n p) = PairSpelled (codes "table") n p
Unopened (Pool k g) = PairSpelled (codes "pool") k g

abbrev Models : (Source → Language) → Lang Source
Models L b m w = L m w × Strictly b (SourceInRange m)

-- a model of two numbers, the first from 1 on
module _ (word : List ℕ) (make : ℕ → ℕ → Source) (n k : ℕ) where
  abbrev Made : Lang Source
  Made b m w = (x : ℕ) × (y : ℕ) × (m ≡ make x y) × PairSpelled word x y w × Strictly b ((1 ≤ x) × (x < n) × (y < k))

  made_reads : Reads (λ l. and_then (pair_at word false 0 (within 1 n) (within 0 k) l) (λ p left. Ok (make p.0 p.1, left))) Made Any Any
  made_reads =
      reads_map
      (λ b m w (p, me, (sp, lawful)). (p.0, p.1, me, sp, λ s. let (_, x, y) = lawful s in let i = inside 1 n p.0 x in let j = inside 0 k p.1 y in omega arith))
      (λ b m w (x, y, me, sp, lawful). ((x, y), me, (sp, λ s. let (one, xn, yk) = lawful s in (refl, is_inside 1 n x one xn, is_inside 0 k y (omega arith) yk))))
      (value (λ p. make p.0 p.1) (pair_reads word false (within 1 n) (within 0 k) (λ _. 0)))

table_reads : Reads table_at (Made (codes "table") Table 513 65) Any Any
table_reads = made_reads (codes "table") Table 513 65

pool_reads : Reads pool_at (Made (codes "pool") Pool 5 2) Any Any
pool_reads = made_reads (codes "pool") Pool 5 2

law_model : Law (choose 116 table_at pool_at) (Models Unopened)
law_model =
    law_choose 116
    (law_map (λ b m w (n, p, me, sp, lawful). subst (λ y. Models Unopened b y w) (sym me) (sp, λ s. let r = lawful s in omega arith)) table_reads.law)
    (law_map (λ b m w (k, g, me, sp, lawful). subst (λ y. Models Unopened b y w) (sym me) (sp, λ s. let r = lawful s in omega arith)) pool_reads.law)

full_model : Full (choose 116 table_at pool_at) (Models Unopened) Any
full_model b (Table n p) w left (sp, lawful) any =
    subst (λ y. Fine b y (Table n p) left) (sym (cond-true _ _ _ (first_letter 116 116 _ w left sp)))
    (table_reads.full b (Table n p) w left (n, p, refl, sp, λ s. let r = lawful s in omega arith) any)
full_model b (Pool k g) w left (sp, lawful) any =
    subst (λ y. Fine b y (Pool k g) left) (sym (cond-false _ _ _ (first_letter 116 112 _ w left sp)))
    (pool_reads.full b (Pool k g) w left (k, g, refl, sp, λ s. let r = lawful s in omega arith) any)

model_on : (m : Source) (w : List ℕ) → Then (Word (40 ∷ [])) (Unopened m) w → SourceSpelled m w
model_on (Table n p) = bracket_on (codes "table")
model_on (Pool k g) = bracket_on (codes "pool")

model_off : (m : Source) (w : List ℕ) → SourceSpelled m w → Then (Word (40 ∷ [])) (Unopened m) w
model_off (Table n p) = bracket_off (codes "table")
model_off (Pool k g) = bracket_off (codes "pool")

source_reads : Reads source_at (Models SourceSpelled) Any Any
source_reads =
    reads_map
    (λ b m w (u, v, e, s, (sp, lawful)). (model_on m w (u, v, e, s, sp), lawful))
    (λ b m w (sp, lawful). let (u, v, e, s, rest) = model_off m w sp in (u, v, e, s, (rest, lawful)))
    (then (word_reads Any (40 ∷ []) (λ _. tt))
    (record {
      law = law_model;
      full = full_model;
      start = λ b m w left s any. tt;
      some = let (m, w, (n, p, me, sp, lawful)) = table_reads.some in (Table n p, w, (sp, λ e. absurd (false≢true e)));
    }))

-- the script

abbrev pub Scripts : Lang Told
Scripts b t w = (s : Script) × (t ≡ told s) × Spells s w × Strictly b (Lawful s)

-- 2,057 lines are more than a lawful script has
fits-lawful : (s : Script) → Lawful s → Fits s.source 2057 nothing s.lines s.asks
fits-lawful s l =
    record {
      lines = l.lines;
      steps = omega arith;
      holdings = omega arith;
      asks = omega arith;
      rows = omega arith;
      nesting = l.nesting;
      count = omega (arith, lines-count s.lines);
    }

lawful-fits : (d : ℕ) (m : Source) (ls : List Line) (qs : List Question) → (d ≡ 1) ⊎ (d ≡ 4) → SourceInRange m → Fits m 2057 nothing ls qs → Lawful (record { levels = d; source = m; lines = ls; asks = qs })
lawful-fits d m ls qs d-ok m-ok f =
    record {
      levels = d-ok;
      source = m-ok;
      lines = f.lines;
      steps = omega arith;
      holdings = omega arith;
      asks = omega arith;
      rows = omega arith;
      nesting = f.nesting;
    }

pub script_reads : Reads script_at Scripts Any Nothing
script_reads =
    reads_map
    (λ b t w (d, (u, v, e, (ds, d-ok), (m, (u2, v2, e2, (ms, m-ok), (h, te, (ls, qs, he, (u3, v3, e3, lsp, qsp), _, fits)))))). (
      record { levels = d; source = m; lines = ls; asks = qs },
      te ∙ ap (λ y. record { levels = d; source = m; said = y }) he,
      (u, v, e, ds, (u2, v2, e2, ms, (u3, v3, e3, lsp, qsp))),
      λ strict. lawful-fits d m ls qs (d-ok strict) (m-ok strict) (fits strict),
    ))
    (λ b t w (s, te, (u, v, e, ds, (u2, v2, e2, ms, (u3, v3, e3, lsp, qsp))), lawful).
    let fits : Strictly b (Fits s.source 2057 nothing s.lines s.asks) = λ strict. fits-lawful s (lawful strict) in
    (s.levels, (u, v, e, (ds, λ strict. (lawful strict).levels), (s.source, (u2, v2, e2, (ms, λ strict. (lawful strict).source), ((told s).said, te, (s.lines, s.asks, refl, (u3, v3, e3, lsp, qsp), inl refl, fits)))))))
    (bind scale_reads (λ d. bind source_reads (λ m. value (λ h. record { levels = d; source = m; said = h }) (lines_reads m 2057 nothing))))
