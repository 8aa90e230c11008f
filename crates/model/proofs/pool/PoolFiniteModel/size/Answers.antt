use Rattle.std.proofs.Common.{◌≤◌, arith, rules}
use Rattle.std.proofs.lemmas.Bool.Decides.{nat_tests}
use Rattle.model.proofs.Pooled.{few}
use Rattle.model.proofs.pool.PoolFiniteModel.size.Goals as goal

pub pow-requires : goal.pow-requires
pow-requires c = let w : (1 ≤ c.from.result) × (c.from.result ≤ 6) = search rules in omega (arith, few c.from.result w.1)

pub returns-then-self-le1 : goal.returns-then-self-le1
returns-then-self-le1 c =
    let w : (1 ≤ c.args.self.now.buffers) × (c.args.self.now.buffers ≤ 6) = search rules in
    let f = few c.args.self.now.buffers w.1 in record { states = grind (arith, nat_tests); props = grind (arith, nat_tests) }
