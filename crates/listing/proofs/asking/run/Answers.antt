use Rattle.std.proofs.Common.{◌≡◌, replicate, Ok, refl, rules, ◌∙◌}
use Rattle.text.specs.Formulas.{row_for}
use Rattle.listing.proofs.asking.run.Goals as goal

pub returns : goal.returns
returns g c =
    let is : c.open.result ≡ Ok c.in_ok-sheet.sheet = search rules in
    let zero : c.default.result ≡ row_for 0 0 0 = search rules in
    c.ask_all.ensures ∙ rw (zero, ← c.open.ensures (replicate 32 (row_for 0 0 0)) (replicate 16384 0), is) refl
