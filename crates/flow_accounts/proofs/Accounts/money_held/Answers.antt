use Rattle.std.specs.Int.{w128}
use Rattle.std.proofs.Common.{◌≡◌, ◌∙◌, arith}
use Rattle.std.proofs.lemmas.Int.{ints, to_z-of_z}
use Rattle.flow_accounts.specs.Balances.{money_of}
use Rattle.flow_accounts.specs.NoCredit.{no_holding}
use Rattle.flow_accounts.proofs.Holdings.{money_is, balance_is, money_reach}
use Rattle.flow_accounts.proofs.Accounts.money_held.Goals as goal

money_there : (c : goal.After-money) → c.money.result ≡ money_of c.args.self.now c.args.account
money_there c = c.money.ensures no_holding ∙ money_is c.self.inside _ c.args.account c.self.invariant c.self.view_is c.requires no_holding

pub returns-clause-value : goal.returns-clause-value
returns-clause-value c = rw (to_z-of_z w128 c.money.result (record { sfits = c.money.type_inv })) (money_there c)

pub returns-clause-balance : goal.returns-clause-balance
returns-clause-balance c =
    let balance = balance_is c.self.inside _ c.args.account c.self.invariant c.self.view_is c.requires in
    rw (to_z-of_z w128 c.money.result (record { sfits = c.money.type_inv })) (omega (arith, ints, money_there c, balance.0), omega (arith, ints, money_there c, balance.1))

pub returns-clause-reach : goal.returns-clause-reach
returns-clause-reach c = money_reach c.self.inside _ c.args.account c.self.invariant c.self.view_is c.requires
