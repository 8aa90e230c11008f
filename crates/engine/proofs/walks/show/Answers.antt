use Rattle.engine.specs.Marks.{members}
use Rattle.engine.specs.Satisfied.{asked, quantifier}
use Rattle.engine.proofs.Showing.{shown}
use Rattle.engine.proofs.walks.show.Goals as goal

pub returns : goal.returns
returns g c =
    shown (g.M.Model.meaning c.args.model.now) (g.M.Model.lawful c.args.model.now) c.requires.total (quantifier c.args.some) (asked c.args.operator) c.args.reading
    (members c.args.operands.left.now) (members c.args.operands.right.now) c.task_of-task.result c.task_of-task.ensures
    c.args.s c.requires.inside c.args.out.now c.search.new.out c.search.result c.search.ensures
