use Rattle.std.proofs.Common.{arith, rules}
use Rattle.std.proofs.lemmas.List.{at_drop_more}
use Rattle.text.specs.Reads.{word_at}
use Rattle.text.proofs.reader.Reader.word.Goals as goal

pub returns-in_err-peek : goal.returns-in_err-peek
returns-in_err-peek c = let e = at_drop_more (λ l. word_at l c.loop-c.self.rest.now) c.args.letters.now c.loop-c.c-index 0 (omega arith) in search rules
