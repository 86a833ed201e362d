use Rattle.std.proofs.Common.{◌≤◌, length, rules, arith}
use Rattle.std.proofs.lemmas.Slice.Zip.{zip_turn, zip_end}
use Rattle.std.proofs.lemmas.List.{length_push}
use Rattle.flow_orders.specs.Trades.{trades}
use Rattle.fill_caps.proofs.Parts.{IsReady, turn_is, IsSettledTo-none, IsSettledTo-more, rounding, has_room, money_held, units_held, accounts_settled, exchange_settled, needs_covered}
use Rattle.fill_caps.proofs.settlement.settle.Goals as goal
use Rattle.fill_caps.proofs.settlement.settle.Goals.{In-None}

pub loop-order-init : goal.loop-order-init
loop-order-init c = IsSettledTo-none c.args.prices.now (trades c.args.orders.now c.args.rates.now) c.args.accounts.now c.args.exchange.now c.count-accounts.ensures.lawful

pub settle_order-requires-clause-rounding : goal.settle_order-requires-clause-rounding
settle_order-requires-clause-rounding c =
    let turn = turn_is c.args.orders.now c.args.rates.now (length c.loop-order.yielded) c.in-Some.order.now c.in-Some.rate.now c.requires.one_rate_each (zip_turn c.args.orders.now c.args.rates.now c.loop-order.yielded c.into_iter-order-iterator.result c.loop-order.order-iterator c.next.new.self c.next.result (search rules) (search rules) c.loop-order.yielded_by _ c.in-Some.is c.next.ensures.steps) in
    rounding c.args.prices.now c.args.orders.now c.args.rates.now c.args.accounts.now c.args.exchange.now (record { few = c.requires.few; one_rate_each = c.requires.one_rate_each; roundings = c.requires.roundings; one_price_each = c.requires.one_price_each; range = c.requires.range; exchange_each = c.requires.exchange_each; accounts_there = c.requires.accounts_there; assets_there = c.requires.assets_there; covered = c.requires.covered; total_money = c.requires.total_money; total_units = c.requires.total_units; exchange_money = c.requires.exchange_money; exchange_units = c.requires.exchange_units }) c.loop-order.accounts c.loop-order.exchange (length c.loop-order.yielded) c.loop-order.invariant c.in-Some.order.now c.in-Some.rate.now turn

pub settle_order-requires-clause-room : goal.settle_order-requires-clause-room
settle_order-requires-clause-room c =
    let turn = turn_is c.args.orders.now c.args.rates.now (length c.loop-order.yielded) c.in-Some.order.now c.in-Some.rate.now c.requires.one_rate_each (zip_turn c.args.orders.now c.args.rates.now c.loop-order.yielded c.into_iter-order-iterator.result c.loop-order.order-iterator c.next.new.self c.next.result (search rules) (search rules) c.loop-order.yielded_by _ c.in-Some.is c.next.ensures.steps) in
    has_room c.args.prices.now c.args.orders.now c.args.rates.now c.args.accounts.now c.args.exchange.now (record { few = c.requires.few; one_rate_each = c.requires.one_rate_each; roundings = c.requires.roundings; one_price_each = c.requires.one_price_each; range = c.requires.range; exchange_each = c.requires.exchange_each; accounts_there = c.requires.accounts_there; assets_there = c.requires.assets_there; covered = c.requires.covered; total_money = c.requires.total_money; total_units = c.requires.total_units; exchange_money = c.requires.exchange_money; exchange_units = c.requires.exchange_units }) c.loop-order.accounts c.loop-order.exchange (length c.loop-order.yielded) c.loop-order.invariant c.in-Some.order.now c.in-Some.rate.now turn

pub loop-order-preserved : goal.loop-order-preserved
loop-order-preserved c =
    let turn = turn_is c.args.orders.now c.args.rates.now (length c.loop-order.yielded) c.in-Some.order.now c.in-Some.rate.now c.requires.one_rate_each (zip_turn c.args.orders.now c.args.rates.now c.loop-order.yielded c.into_iter-order-iterator.result c.loop-order.order-iterator c.next.new.self c.next.result (search rules) (search rules) c.loop-order.yielded_by _ c.in-Some.is c.next.ensures.steps) in
    IsSettledTo-more c.args.prices.now c.args.orders.now c.args.rates.now c.args.accounts.now c.args.exchange.now (record { few = c.requires.few; one_rate_each = c.requires.one_rate_each; roundings = c.requires.roundings; one_price_each = c.requires.one_price_each; range = c.requires.range; exchange_each = c.requires.exchange_each; accounts_there = c.requires.accounts_there; assets_there = c.requires.assets_there; covered = c.requires.covered; total_money = c.requires.total_money; total_units = c.requires.total_units; exchange_money = c.requires.exchange_money; exchange_units = c.requires.exchange_units }) c.loop-order.accounts c.loop-order.exchange (length c.loop-order.yielded) c.loop-order.invariant c.in-Some.order.now c.in-Some.rate.now turn
    c.settle_order.new.accounts c.settle_order.new.exchange _ (length_push c.loop-order.yielded (c.in-Some.order, c.in-Some.rate)) c.settle_order.ensures.settles c.settle_order.ensures.order c.settle_order.ensures.lawful c.settle_order.ensures.exchange_count

ready : (c : In-None) → IsReady c.args.prices.now c.args.orders.now c.args.rates.now c.args.accounts.now c.args.exchange.now
ready c = record { few = c.requires.few; one_rate_each = c.requires.one_rate_each; roundings = c.requires.roundings; one_price_each = c.requires.one_price_each; range = c.requires.range; exchange_each = c.requires.exchange_each; accounts_there = c.requires.accounts_there; assets_there = c.requires.assets_there; covered = c.requires.covered; total_money = c.requires.total_money; total_units = c.requires.total_units; exchange_money = c.requires.exchange_money; exchange_units = c.requires.exchange_units }

all : (c : In-None) → length c.args.orders.now ≤ length c.loop-order.yielded
all c =
    let count = zip_end c.args.orders.now c.args.rates.now c.loop-order.yielded c.into_iter-order-iterator.result c.loop-order.order-iterator c.next.new.self c.next.result (search rules) (search rules) c.loop-order.yielded_by c.in-None.is c.next.ensures.steps in
    omega (arith, count, c.requires.one_rate_each)

pub returns-clause-accounts : goal.returns-clause-accounts
returns-clause-accounts c = accounts_settled c.args.prices.now c.args.orders.now c.args.rates.now c.args.accounts.now c.args.exchange.now (ready c) c.loop-order.accounts c.loop-order.exchange (length c.loop-order.yielded) c.loop-order.invariant (all c)

pub returns-clause-exchange : goal.returns-clause-exchange
returns-clause-exchange c = exchange_settled c.args.prices.now c.args.orders.now c.args.rates.now c.args.accounts.now c.args.exchange.now (ready c) c.loop-order.accounts c.loop-order.exchange (length c.loop-order.yielded) c.loop-order.invariant (all c)

pub returns-clause-covered : goal.returns-clause-covered
returns-clause-covered c = needs_covered c.args.prices.now c.args.orders.now c.args.rates.now c.args.accounts.now c.args.exchange.now (ready c) c.loop-order.accounts c.loop-order.exchange (length c.loop-order.yielded) c.loop-order.invariant (all c)

pub returns-clause-money_held : goal.returns-clause-money_held
returns-clause-money_held c = money_held c.args.prices.now c.args.orders.now c.args.rates.now c.args.accounts.now c.args.exchange.now (ready c) c.loop-order.accounts c.loop-order.exchange (length c.loop-order.yielded) c.loop-order.invariant

pub returns-clause-units_held : goal.returns-clause-units_held
returns-clause-units_held c = units_held c.args.prices.now c.args.orders.now c.args.rates.now c.args.accounts.now c.args.exchange.now (ready c) c.loop-order.accounts c.loop-order.exchange (length c.loop-order.yielded) c.loop-order.invariant
