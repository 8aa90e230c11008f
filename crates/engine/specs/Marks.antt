-- Sets of states and rounds of joining, as arrays hold them.
use Rattle.std.specs.Prelude.{ℕ, Bool, false, nat_lt, slice_index, slice_index_or}
use Rattle.logic.specs.Sets.{Set}
use Rattle.engine.specs.declared.per_state.PerState.{PerState}

-- what the code calls StateSet and Rounds
abbrev pub StateSet : Type 0
StateSet = PerState Bool

abbrev pub Rounds : Type 0
Rounds = PerState ℕ

-- the states of a set
abbrev pub members : StateSet → Set
members x s = slice_index_or x.at s false

-- the round in which a state joined
abbrev pub round_of : Rounds → ℕ → ℕ
round_of x s = slice_index x.at s

-- the states that joined before round k
abbrev pub before : Rounds → ℕ → Set
before x k s = nat_lt (round_of x s) k

-- the states whose step is ours to choose: all or none
abbrev pub ours : Bool → Set
ours some s = some
