-- The listing call writes truth values.
use Rattle.std.proofs.Common.{◌≡◌, ℕ, ◌≤◌, Bool, true, false, cond, ltb, List, ◌++◌, length, drop, Ok, Err, Result, sym, refl, ap, ◌∙◌, arith}
use Rattle.std.proofs.lemmas.Bool.{ltb-false}
use Rattle.text.specs.Scripts.{script_at, answer_of}
use Rattle.grammar.specs.Scripts.{Script, told, steps_of, holdings_of}
use Rattle.grammar.proofs.Theorems.{read_where_lawful}
use Rattle.listing.specs.declared.answers.Answer.{Answer}
use Rattle.listing.specs.Faults.{Telling, telling}
use Rattle.listing.specs.Listings.{Given, lines_of, answers_to, listing}
use Rattle.listing.specs.Runs.{then, answers_of}
use Rattle.listing.specs.Truths.{model_of, scale_of, Answered, TrueListing}
use Rattle.listing.specs.Writing.{degree_lines}
use Rattle.listing.proofs.Answered.{model_lawful, scale_lawful, run_true}
use Rattle.listing.proofs.Language.{Little, on_scale, little_run, out, shown, listing_is}

-- where the number is 0, neither length was refused
not_small : (b : Bool) (before : List ℕ) (n : ℕ) (x : ℕ × ℕ × List ℕ) → n ≡ (cond b (0, 18, before) x).1 → n ≡ 0 → (b ≡ false) × (n ≡ x.1)
not_small true before n x e z = absurd (omega (arith, e, z))
not_small false before n x e z = (refl, e)

not_long : (b : Bool) (n : ℕ) (r : Result Given Telling) → n ≡ (lines_of (cond b (Err (telling 14 1 1 0)) r)).1 → n ≡ 0 → b ≡ false
not_long true n r e z = absurd (omega (arith, e, z))
not_long false n r e z = refl

module _ (text before : List ℕ) (w n : ℕ) (after : List ℕ) where
  by_run : (s : Script) (r : Result (List Answer) Telling) → r ≡ answers_of (told s) → Little r →
      (w, n, after) ≡ shown text before (lines_of (then r (on_scale (told s)))) → n ≡ 0 →
      (answers : List Answer) × Answered (model_of s) (scale_of s) s.asks answers × (after ≡ degree_lines s.levels 0 answers ++ drop w before)
  by_run s (Ok l) r h e z =
      let long : w ≡ length (degree_lines s.levels 0 l) = ap (λ (o : ℕ × ℕ × List ℕ). o.0) e in
      let holds : after ≡ degree_lines s.levels 0 l ++ drop (length (degree_lines s.levels 0 l)) before = ap (λ (o : ℕ × ℕ × List ℕ). o.2) e in (
        l,
        run_true (model_of s) (model_lawful s.source (told s).said) (scale_of s) (scale_lawful s.levels) (steps_of s.lines) (holdings_of s.lines) s.asks l r,
        holds ∙ ap (λ (k : ℕ). degree_lines s.levels 0 l ++ drop k before) (sym long),
      )
  by_run s (Err t) r h e z = absurd (let same : n ≡ t.number = ap (λ (o : ℕ × ℕ × List ℕ). o.1) e in omega (arith, same, z, h.0))

  pub by_truth : (w, n, after) ≡ listing text before → TrueListing text before w n after
  by_truth e z s spelled lawful =
      let small = not_small (ltb (length before) 256) before n (shown text before (lines_of (answers_to text))) (ap (λ (o : ℕ × ℕ × List ℕ). o.1) e) z in
      let long = not_long (ltb 16384 (length text)) n _ small.1 z in
      let read : answer_of (script_at text) ≡ Ok (told s) = (read_where_lawful text (told s)).1 (s, spelled, lawful, refl) in
      let room : 256 ≤ length before = ltb-false (length before) 256 small.0 in
      let fits : length text ≤ 16384 = ltb-false 16384 (length text) long in
      by_run s (answers_of (told s)) refl (little_run (model_of s) (scale_of s) (told s).said)
      (e ∙ listing_is text before fits room ∙ ap (λ r. shown text before (out text before r)) read) z
