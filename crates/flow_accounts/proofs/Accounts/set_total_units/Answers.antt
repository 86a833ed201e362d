use Rattle.std.proofs.Common.{arith}
use Rattle.std.proofs.lemmas.Int.{ints}
use Rattle.flow_accounts.proofs.Totals.{total_written}
use Rattle.flow_accounts.proofs.Accounts.set_total_units.Goals as goal

pub invariant_of-self : goal.invariant_of-self
invariant_of-self c = (total_written c.self.inside _ c.args.asset c.args.total _ c.self.invariant c.self.view_is c.requires.asset c.requires.total (omega (arith, ints))).kept

pub returns-clause-set : goal.returns-clause-set
returns-clause-set c = (total_written c.self.inside _ c.args.asset c.args.total _ c.self.invariant c.self.view_is c.requires.asset c.requires.total (omega (arith, ints))).shown

pub returns-clause-lawful : goal.returns-clause-lawful
returns-clause-lawful c = (invariant_of-self c).lawful
