use Rattle.std.proofs.Common.{slice_index_or, ap, ◌∙◌, arith}
use Rattle.engine.proofs.Filled.{filled}
use Rattle.engine.proofs.per_state.PerState.by.Goals as goal

pub loop-s-init : goal.loop-s-init
loop-s-init g c = (λ k l. absurd (omega arith), λ k l. ap (λ xs. slice_index_or xs k c.args.rest) c.everywhere-all.ensures ∙ filled 4096 k c.args.rest)
