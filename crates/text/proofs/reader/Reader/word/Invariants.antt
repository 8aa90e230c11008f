use Rattle.std.proofs.Common.{◌≡◌, drop}
use Rattle.text.specs.Reads.{word_at}
use Rattle.text.proofs.reader.Reader.word.Given as goal

abbrev pub invariant-loop-c : goal.invariant-loop-c
invariant-loop-c l = word_at (drop l.c-index l.letters) l.self.rest.now ≡ word_at l.letters l.initial.self.rest.now
