use Rattle.std.proofs.Common.{◌≡◌, ℕ, ◌<◌, ◌≤◌, slice_index_or}
use Rattle.engine.proofs.per_state.PerState.by.Given as goal

abbrev pub invariant-loop-s : goal.invariant-loop-s
invariant-loop-s g l =
    ((k : ℕ) → k < l.s → goal.F-post g l.rule k (slice_index_or l.all.at k l.fn.rest))
    × ((k : ℕ) → l.s ≤ k → slice_index_or l.all.at k l.fn.rest ≡ l.fn.rest)
