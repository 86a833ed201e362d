use Rattle.std.proofs.Common.{rules}
use Rattle.price_moves.proofs.retracing.move_again.Goals as goal

pub returns-then-from-prices-clause-illegal : goal.returns-then-from-prices-clause-illegal
returns-then-from-prices-clause-illegal c = search rules

pub make_move-requires-clause-unsettled : goal.make_move-requires-clause-unsettled
make_move-requires-clause-unsettled c = search rules

pub returns-clause-legal : goal.returns-clause-legal
returns-clause-legal c = search rules
