use Rattle.std.proofs.Common.{Err, ap}
use Rattle.order_text.proofs.Ladders.{line_read, line_unadded}
use Rattle.order_text.proofs.line.read_line.Goals as goal

pub returns-in-Ok-clause-read : goal.returns-in-Ok-clause-read
returns-in-Ok-clause-read c =
    line_read c.args.version c.args.tickers.now c.add_ticker.new.tickers c.args.line.now c.in_ok-read.read c.in_ok-read.ensures.asked c.in-Ok.ensures.after

pub returns-in-Err-clause-read : goal.returns-in-Err-clause-read
returns-in-Err-clause-read c =
    line_unadded c.args.version c.args.tickers.now c.add_ticker.new.tickers c.args.line.now c.in_ok-read.read c.in-Err.fault c.in_ok-read.ensures.asked c.in-Err.ensures.asked (λ is. c.in-Err.ensures.fault (ap Err is)) c.in-Err.ensures.stays
