use Rattle.std.proofs.Common.{◌≡◌, ◌*◌, ◌≤◌, ◌++◌, length, drop}
use Rattle.listing.specs.Writing.{degree_lines}
use Rattle.listing.proofs.writing.degree_lines.Given as goal

-- what is written and what is left give the whole, and each line has at most 22 bytes
abbrev pub invariant-loop-i : goal.invariant-loop-i
invariant-loop-i l =
    (l.out.bytes ++ degree_lines l.answers.levels l.i (drop l.i l.answers.list.items) ≡ degree_lines l.answers.levels 0 l.answers.list.items)
    × (length l.out.bytes ≤ 22 * l.i)
