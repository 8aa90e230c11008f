use Rattle.std.proofs.Common.{◌+◌, ◌-◌, ◌∙◌, sym, arith}
use Rattle.sheet.proofs.Asked.{path-degree}
use Rattle.sheet.proofs.Numbers.{kind_of-number_of}
use Rattle.sheet.proofs.Raised.{level_raised, last_level}
use Rattle.sheet.proofs.sheet.lent.Known.by_levels.Goals as goal

pub loop-level-init : goal.loop-level-init
loop-level-init g c rs s h = c.requires.zero s h

pub loop-level-preserved : goal.loop-level-preserved
loop-level-preserved g c rs s h =
    last_level c.loop-level.level (c.loop-level.level + 1 - 1) _ _ (omega arith)
    (level_raised (g.M.Model.meaning c.args.model.now) (g.S.Scale.grades c.args.scale.now) c.args.self.now rs c.loop-level.level s _ _ c.unwrap-reading.result c.reaching-left.result c.second_reaching-right.result c.satisfy-set.result _ _ c.requires.path (sym c.unwrap-reading.ensures ∙ c.reading.ensures) (c.reaching-left.ensures rs) (c.second_reaching-right.ensures rs)
    (c.satisfy-set.ensures s (omega (arith, c.requires.sizes.states))) (omega arith) (c.loop-level.invariant rs s h) (c.raise.ensures s h))

pub returns-2 : goal.returns-2
returns-2 g c rs s h =
    let x = c.args.self.now in
    last_level c.loop-level.level x.lent.sheet.now.levels _ _ (omega arith)
    (level_raised (g.M.Model.meaning c.args.model.now) (g.S.Scale.grades c.args.scale.now) c.args.self.now rs c.loop-level.level s _ _ c.unwrap-reading.result c.reaching-left.result c.second_reaching-right.result c.satisfy-set.result _ _ c.requires.path (sym c.unwrap-reading.ensures ∙ c.reading.ensures) (c.reaching-left.ensures rs) (c.second_reaching-right.ensures rs)
    (c.satisfy-set.ensures s (omega (arith, c.requires.sizes.states))) (omega arith) (c.loop-level.invariant rs s h) (c.raise.ensures s h))
    ∙ path-degree _ _ _ _ _ x.lent.sheet.now.levels s _ _ (kind_of-number_of x.kind x.a ∙ c.requires.path) c.requires.sizes.levels
