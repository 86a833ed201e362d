use Rattle.market_core.proofs.market.Market.make.Goals as goal

pub add_order-requires-clause-command : goal.add_order-requires-clause-command
add_order-requires-clause-command c = rw c.in-PlaceOrder.is at c.requires.command

pub add_order-requires-in-PlaceUntil-clause-command : goal.add_order-requires-in-PlaceUntil-clause-command
add_order-requires-in-PlaceUntil-clause-command c = rw c.in-PlaceUntil.is at c.requires.command
