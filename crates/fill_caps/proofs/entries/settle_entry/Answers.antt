use Rattle.std.proofs.Common.{FitsSigned, get_or, ap, ◌∙◌, ◌*ℤ◌, pos, arith, rules}
use Rattle.std.specs.Int.{w64, w128}
use Rattle.flow_accounts.specs.Balances.{units_in}
use Rattle.weight_rows.specs.Rows.{price_of}
use Rattle.fill_caps.proofs.Amounts.{taken_away, amount_is, exchange_is}
use Rattle.fill_caps.proofs.entries.settle_entry.Goals as goal

pub add-requires-clause-units_fit : goal.add-requires-clause-units_fit
add-requires-clause-units_fit c =
    rw (taken_away w64 (units_in c.args.exchange.now c.args.entry.asset) c.units_for-units.result (c.args.entry.weight *ℤ pos c.args.rate) (record { sfits = c.units_for-units.type_inv }) (omega (arith, c.units_for-units.ensures.bound)) (amount_is c.units_for-units.result c.args.entry.weight c.args.rate (search rules) c.units_for-units.ensures.value)) c.requires.exchange_units

pub returns-clause-exchange : goal.returns-clause-exchange
returns-clause-exchange c =
    let units : FitsSigned w64 c.units_for-units.result = record { sfits = c.units_for-units.type_inv } in
    let cost : FitsSigned w128 c.cost_of-cost.result = record { sfits = c.cost_of-cost.type_inv } in
    c.add.ensures.added
    ∙ exchange_is c.args.exchange.now c.args.entry.asset (c.args.entry.weight *ℤ pos c.args.rate) (price_of c.args.prices.now c.args.entry.asset) c.units_for-units.result (get_or c.args.prices.now c.from.result (pos 0)) c.cost_of-cost.result
    units c.units_for-units.ensures.bound (amount_is c.units_for-units.result c.args.entry.weight c.args.rate (search rules) c.units_for-units.ensures.value) (ap (price_of c.args.prices.now) c.from.ensures) c.requires.price cost c.cost_of-cost.ensures
