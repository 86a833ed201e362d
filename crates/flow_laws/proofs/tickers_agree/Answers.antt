use Rattle.flow_laws.proofs.TickersAgree.{tickers_agree}
use Rattle.flow_laws.proofs.tickers_agree.Goals as goal

pub returns : goal.returns
returns c = tickers_agree
