-- How a level is read along an endless walk.
use Rattle.std.specs.Prelude.{ℕ, List, codes}
use Rattle.scale.specs.declared.reading.Reading.{Reading}
use Rattle.scale.specs.declared.reading.Reading.TheVariants.{Sometime, InfinitelyOften, EventuallyAlways, Always}

-- the weakest reading has the least strength
abbrev pub strength : Reading → ℕ
strength Sometime = 0
strength InfinitelyOften = 1
strength EventuallyAlways = 2
strength Always = 3

abbrev pub named : Reading → List ℕ
named Sometime = codes "sometime"
named InfinitelyOften = codes "infinitely often"
named EventuallyAlways = codes "eventually always"
named Always = codes "always"
