use Rattle.std.proofs.Common.{sym, ◌∙◌, subst}
use Rattle.sheet.specs.States.{seen}
use Rattle.sheet.proofs.Exits.{refused}
use Rattle.client.specs.Promise.{Broken}
use Rattle.client.proofs.Asking.{asked_lawfully, nothing_written}
use Rattle.client.proofs.Entering.{stands, judged_degree, judged_walk}
use Rattle.client.proofs.Refusing.{new_refuses, first_refuses, second_refuses, third_refuses, degree_refuses, none_refuses}
use Rattle.client.proofs.never_holds.Goals as goal

pub returns-clause-judged : goal.returns-clause-judged
returns-clause-judged g c =
    let m = g.M.Model.meaning c.args.model.now in
    let law = g.M.Model.lawful c.args.model.now in
    let grades = g.S.Scale.grades c.args.scale.now in
    let orderly = g.S.Scale.lawful c.args.scale.now in
    let last = seen c.enter-3.new.self c.enter-3.new.rows c.enter-3.new.bytes in
    let row = stands m law grades orderly c.args.p c.in_ok-held.held c.in_ok-free.free c.in_ok-never.never
    (seen c.in_ok-sheet.sheet c.args.rows.now c.args.bytes.now) (seen c.enter.new.self c.enter.new.rows c.enter.new.bytes)
    (seen c.enter-2.new.self c.enter-2.new.rows c.enter-2.new.bytes) last
    c.args.rows.now c.args.bytes.now (c.in_ok-sheet.ensures c.args.rows.now c.args.bytes.now)
    c.of-holds.result c.of-not.result c.of-always.result c.of-holds.ensures c.of-not.ensures c.of-always.ensures
    c.in_ok-held.ensures.answers c.in_ok-held.ensures.leaves
    c.in_ok-free.ensures.answers c.in_ok-free.ensures.leaves
    c.in_ok-never.ensures.answers c.in_ok-never.ensures.leaves in
    record {
      degree = judged_degree m law grades orderly c.args.p c.in_ok-never.never c.args.state c.args.level last row c.in_ok-degree.degree (c.in_ok-degree.ensures.law c.enter-3.new.rows);
      run = λ inside some most room. subst (Broken m grades c.args.p c.args.state c.args.level c.args.out.now c.walk.new.out) (sym c.ok-run.ensures.value)
          (judged_walk m law grades orderly c.args.p c.in_ok-never.never c.args.state c.args.level last row c.args.out.now c.walk.new.out inside some most room c.walk.result c.walk.ensures.law);
      asked = λ counts e. asked_lawfully m law grades orderly c.args.p c.in_ok-never.never c.args.state c.args.level last row c.args.out.now c.walk.new.out c.walk.result c.walk.ensures.exact counts (sym c.ok-run.ensures.value ∙ e);
      still = λ e. nothing_written m law grades orderly c.args.p c.in_ok-never.never c.args.state c.args.level last row c.args.out.now c.walk.new.out c.walk.result c.walk.ensures.exact (sym c.ok-run.ensures.value ∙ e);
    }

pub returns-in_err-sheet-clause-refuses : goal.returns-in_err-sheet-clause-refuses
returns-in_err-sheet-clause-refuses g c =
    refused _ _ c.from_residual.ensures.1
    (new_refuses _ (g.M.Model.lawful c.args.model.now) _ (g.S.Scale.lawful c.args.scale.now) _ _ _ _ _ _ _ (c.in_err-sheet.ensures c.args.rows.now c.args.bytes.now))

pub returns-in_err-held-clause-refuses : goal.returns-in_err-held-clause-refuses
returns-in_err-held-clause-refuses g c =
    refused _ _ c.from_residual-in_err-held.ensures.1
    (first_refuses _ (g.M.Model.lawful c.args.model.now) _ (g.S.Scale.lawful c.args.scale.now) c.args.p c.args.state _ _ (c.in_ok-sheet.ensures c.args.rows.now c.args.bytes.now) c.of-holds.ensures _ c.in_err-held.ensures.answers)

pub returns-in_err-free-clause-refuses : goal.returns-in_err-free-clause-refuses
returns-in_err-free-clause-refuses g c =
    refused _ _ c.from_residual-in_err-free.ensures.1
    (second_refuses _ (g.M.Model.lawful c.args.model.now) _ (g.S.Scale.lawful c.args.scale.now) c.args.p c.args.state _ _ (c.in_ok-sheet.ensures c.args.rows.now c.args.bytes.now) c.of-holds.ensures
    c.in_ok-held.ensures.answers c.in_ok-held.ensures.leaves c.of-not.ensures _ c.in_err-free.ensures.answers)

pub returns-in_err-never-clause-refuses : goal.returns-in_err-never-clause-refuses
returns-in_err-never-clause-refuses g c =
    refused _ _ c.from_residual-in_err-never.ensures.1
    (third_refuses _ (g.M.Model.lawful c.args.model.now) _ (g.S.Scale.lawful c.args.scale.now) c.args.p c.args.state _ _ (c.in_ok-sheet.ensures c.args.rows.now c.args.bytes.now) c.of-holds.ensures
    c.in_ok-held.ensures.answers c.in_ok-held.ensures.leaves c.of-not.ensures
    c.in_ok-free.ensures.answers c.in_ok-free.ensures.leaves c.of-always.ensures _ c.in_err-never.ensures.answers)

pub returns-in_err-degree-clause-refuses : goal.returns-in_err-degree-clause-refuses
returns-in_err-degree-clause-refuses g c =
    refused _ _ c.from_residual-in_err-degree.ensures.1
    (degree_refuses _ (g.M.Model.lawful c.args.model.now) _ (g.S.Scale.lawful c.args.scale.now) c.args.p c.args.state _ _ (c.in_ok-sheet.ensures c.args.rows.now c.args.bytes.now) c.of-holds.ensures
    c.in_ok-held.ensures.answers c.in_ok-held.ensures.leaves c.of-not.ensures
    c.in_ok-free.ensures.answers c.in_ok-free.ensures.leaves c.of-always.ensures
    c.in_ok-never.ensures.answers c.in_ok-never.ensures.leaves _ (c.in_err-degree.ensures.exact c.enter-3.new.rows))

pub returns-clause-refuses : goal.returns-clause-refuses
returns-clause-refuses g c =
    none_refuses _ (g.M.Model.lawful c.args.model.now) _ (g.S.Scale.lawful c.args.scale.now) c.args.p c.args.state _ _ (c.in_ok-sheet.ensures c.args.rows.now c.args.bytes.now) c.of-holds.ensures
    c.in_ok-held.ensures.answers c.in_ok-held.ensures.leaves c.of-not.ensures
    c.in_ok-free.ensures.answers c.in_ok-free.ensures.leaves c.of-always.ensures
    c.in_ok-never.ensures.answers c.in_ok-never.ensures.leaves _ (c.in_ok-degree.ensures.exact c.enter-3.new.rows)
