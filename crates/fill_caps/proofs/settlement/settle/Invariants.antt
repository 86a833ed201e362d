use Rattle.std.proofs.Common.{length}
use Rattle.flow_orders.specs.Trades.{trades}
use Rattle.fill_caps.proofs.Parts.{IsSettledTo}
use Rattle.fill_caps.proofs.settlement.settle.Given as goal

abbrev pub invariant-loop-order : goal.invariant-loop-order
invariant-loop-order l = IsSettledTo l.prices (trades l.orders l.rates) l.initial.accounts l.accounts l.initial.exchange l.exchange (length l.yielded)
