use Rattle.rate_rounding.proofs.Choosing.{one_rate_each, each_is_rounding, no_more_is_left}
use Rattle.rate_rounding.proofs.choice.choose_rates.Goals as goal

pub returns-clause-one_each : goal.returns-clause-one_each
returns-clause-one_each c = one_rate_each c.args.orders.now c.args.quoted.now.prices.items c.choose.new.rates.items c.choose.ensures.chosen c.requires.priced.each

pub returns-clause-roundings : goal.returns-clause-roundings
returns-clause-roundings c = each_is_rounding c.args.orders.now c.args.quoted.now.prices.items c.choose.new.rates.items c.choose.ensures.chosen c.requires.priced.each

pub returns-clause-no_worse : goal.returns-clause-no_worse
returns-clause-no_worse c = no_more_is_left c.args.orders.now c.args.quoted.now.prices.items c.choose.new.rates.items c.choose.ensures.chosen
