use Rattle.std.proofs.Common.{◌≡◌, false, cond, eqb, sym, ap, ◌∙◌}
use mathlib.Core.Path.{fun_ext}
use Rattle.engine.specs.Marks.{members}
use Rattle.engine.specs.Satisfied.{asked, quantifier}
use Rattle.logic.specs.Formulas.{unused}
use Rattle.logic.specs.Kinds.{reach}
use Rattle.sheet.specs.Calls.{given}
use Rattle.sheet.specs.Kinds.{number_of}
use Rattle.sheet.specs.Over.{state_of, row_of}
use Rattle.sheet.proofs.Numbers.{kind_of-number_of, not_prop, path_meant}
use Rattle.sheet.proofs.Walked.{seeks_by}
use Rattle.sheet.proofs.sheet.lent.Known.seek.Goals as goal

pub returns : goal.returns
returns g c rs =
    let x = c.args.self.now in
    let path = path_meant x.kind x.a c.in_ok-some.some c.in_ok-some.operator c.in_ok-some.ensures in
    let first : eqb (number_of x.kind) 1 ≡ false = not_prop x.kind x.a _ _ path in
    seeks_by (g.M.Model.meaning c.args.model.now) c.args.state c.args.out.now c.show.new.out
    (quantifier c.in_ok-some.some) (asked c.in_ok-some.operator) c.unwrap-reading.result (members c.reaching-left.result) (members c.second_reaching-right.result) c.show.result
    (g.S.Scale.grades c.args.scale.now) (state_of x.lent rs) (row_of x) c.args.level
    (sym (kind_of-number_of x.kind x.a ∙ path))
    (sym c.unwrap-reading.ensures ∙ c.reading.ensures)
    (fun_ext (λ s. c.reaching-left.ensures rs s ∙ ap (λ t. reach (cond t unused (given (state_of x.lent rs) x.a)) c.args.level s) (sym first)))
    (fun_ext (λ s. c.second_reaching-right.ensures rs s))
    c.show.ensures
