use Rattle.std.proofs.Common.{◌≡◌, ◌+◌, ◌≤◌, drop}
use Rattle.listing.specs.Places.{place_from, place_after}
use Rattle.listing.proofs.place.place_after.Given as goal

abbrev pub invariant-loop-b : goal.invariant-loop-b
invariant-loop-b l = (place_from l.line l.column (drop l.b-index l.text) ≡ place_after l.text) × (l.line ≤ l.b-index + 1) × (l.column ≤ l.b-index + 1)
