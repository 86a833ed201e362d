use Rattle.std.specs.Int.{w64}
use Rattle.std.proofs.Common.{◌≡◌, ◌∙◌, pos, arith}
use Rattle.std.proofs.lemmas.Int.{ints, to_z-of_z}
use Rattle.flow_accounts.specs.Balances.{units_of}
use Rattle.flow_accounts.specs.NoCredit.{no_holding}
use Rattle.flow_accounts.proofs.Holdings.{units_are, unit_balance_is, units_reach}
use Rattle.flow_accounts.proofs.Accounts.units_held.Goals as goal

units_there : (c : goal.After-units) → c.units.result ≡ units_of c.args.self.now c.args.account c.args.asset
units_there c = c.units.ensures no_holding (pos 0) ∙ units_are c.self.inside _ c.args.account c.self.invariant c.self.view_is c.requires.account no_holding c.args.asset

pub returns-clause-value : goal.returns-clause-value
returns-clause-value c = rw (to_z-of_z w64 c.units.result (record { sfits = c.units.type_inv })) (units_there c)

pub returns-clause-balance : goal.returns-clause-balance
returns-clause-balance c =
    let balance = unit_balance_is c.self.inside _ c.args.account c.self.invariant c.self.view_is c.requires.account c.args.asset c.requires.asset in
    rw (to_z-of_z w64 c.units.result (record { sfits = c.units.type_inv })) (omega (arith, ints, units_there c, balance.0), omega (arith, ints, units_there c, balance.1))

pub returns-clause-reach : goal.returns-clause-reach
returns-clause-reach c = units_reach c.self.inside _ c.args.account c.self.invariant c.self.view_is c.requires.account c.args.asset c.requires.asset
