use Rattle.std.proofs.Common.{◌∙◌, arith}
use Rattle.flow_orders.specs.Trades.{paid}
use Rattle.fill_caps.proofs.Amounts.{IsGone}
use Rattle.fill_caps.proofs.OrderMoves.{rate_is_small, can_give, owed_is, can_pay, order_settles}
use Rattle.fill_caps.proofs.settlement.settle_order.Goals as goal

pub settle_entries-requires-clause-rate : goal.settle_entries-requires-clause-rate
settle_entries-requires-clause-rate c =
    rate_is_small c.args.prices.now c.args.order.now c.args.rate c.account-account.ensures.order c.requires.rounding

pub settle_entries-requires-clause-units : goal.settle_entries-requires-clause-units
settle_entries-requires-clause-units c =
    can_give c.args.prices.now c.args.order.now c.args.rate c.account-account.ensures.order c.requires.rounding c.args.accounts.now c.entries-entries.result.now c.account-account.result
    (c.entries-entries.ensures.value ∙ c.row.ensures.value) c.account-account.ensures.value c.requires.room.units_covered c.requires.room.units_most

-- what the account pays
owed : (c : goal.After-money) → IsGone c.money-held.result c.money.result (paid c.args.prices.now (record { order = c.args.order.now; traded = c.args.rate }))
owed c =
    owed_is c.args.prices.now c.args.order.now c.args.rate c.account-account.ensures.order c.requires.rounding c.requires.range c.money-held.result c.money.result c.entries-entries.result.now (c.entries-entries.ensures.value ∙ c.row.ensures.value)
    (record { sfits = c.money-held.type_inv }) (record { sfits = c.money.type_inv }) (rw (← c.money-held.ensures, ← c.money.ensures) at c.settle_entries.ensures.exchange_money)

pub overflow_sub-held : goal.overflow_sub-held
overflow_sub-held c = (owed c).fits

pub add_money-requires-clause-within_credit : goal.add_money-requires-clause-within_credit
add_money-requires-clause-within_credit c =
    (can_pay c.args.prices.now c.args.order.now c.args.rate c.account-account.ensures.order c.requires.rounding c.requires.range c.args.accounts.now c.settle_entries.new.accounts c.entries-entries.result.now c.account-account.result c.args.exchange.now c.settle_entries.new.exchange _ c.account-account.ensures.value c.settle_entries.ensures c.requires.room.money_covered c.requires.room.money_most (owed c).value).0

pub add_money-requires-clause-fits : goal.add_money-requires-clause-fits
add_money-requires-clause-fits c =
    (can_pay c.args.prices.now c.args.order.now c.args.rate c.account-account.ensures.order c.requires.rounding c.requires.range c.args.accounts.now c.settle_entries.new.accounts c.entries-entries.result.now c.account-account.result c.args.exchange.now c.settle_entries.new.exchange _ c.account-account.ensures.value c.settle_entries.ensures c.requires.room.money_covered c.requires.room.money_most (owed c).value).1

pub returns-clause-settles : goal.returns-clause-settles
returns-clause-settles c =
    let is = c.account-account.ensures.order in
    let amount =
    owed_is c.args.prices.now c.args.order.now c.args.rate is c.requires.rounding c.requires.range c.money-held.result c.money.result c.entries-entries.result.now (c.entries-entries.ensures.value ∙ c.row.ensures.value)
    (record { sfits = c.money-held.type_inv }) (record { sfits = c.money.type_inv }) (rw (← c.money-held.ensures, ← c.money.ensures) at c.settle_entries.ensures.exchange_money) in
    order_settles c.args.prices.now c.args.order.now c.args.rate _ c.entries-entries.result.now c.account-account.result c.args.accounts.now c.settle_entries.new.accounts c.add_money.new.self c.args.exchange.now c.settle_entries.new.exchange
    is.row (λ k d inside. let there = c.requires.assets_there k d inside in omega (arith, there, c.requires.one_price_each)) c.requires.account_there (c.entries-entries.ensures.value ∙ c.row.ensures.value) c.account-account.ensures.value
    amount.value c.settle_entries.ensures c.add_money.ensures.moved
