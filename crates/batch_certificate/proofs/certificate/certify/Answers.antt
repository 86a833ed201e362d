use Rattle.batch_certificate.proofs.Sums.{are_slow}
use Rattle.batch_certificate.proofs.certificate.certify.Goals as goal

pub add_trades-requires-clause-slow : goal.add_trades-requires-clause-slow
add_trades-requires-clause-slow c = rw c.as_slice-3.ensures (are_slow c.args.orders.now c.args.prices c.args.rates c.in_ok-quotes.ensures.priced.each c.requires.roundings)
