use Rattle.std.proofs.Common.{rules}
use Rattle.listing.proofs.asking.Desk.ask_one.Goals as goal

pub returns-in_err-degree-clause-asks : goal.returns-in_err-degree-clause-asks
returns-in_err-degree-clause-asks g c = let e = c.in_err-degree.ensures.exact c.enter_all.new.self.records in search rules

pub returns-clause-asks : goal.returns-clause-asks
returns-clause-asks g c = let e = c.in_ok-degree.ensures.exact c.enter_all.new.self.records in search rules
