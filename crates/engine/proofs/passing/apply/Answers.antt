use Rattle.std.proofs.Common.{rules}
use Rattle.engine.proofs.passing.apply.Goals as goal

pub returns : goal.returns
returns g c =
    record {
      each = λ s q. let h = c.renew.ensures.ruled s q in search rules;
      still = c.renew.ensures.still;
    }
