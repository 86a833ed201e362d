-- The market that the fields of the program's market represent.
use Rattle.market_core.specs.declared.market.Market.TheInside.{Inside}
use Rattle.market_rules.specs.Market.{Market}

-- the market that the fields represent
abbrev pub market_in : Inside → Market
market_in m = record {
  version = m.version;
  tickers = m.tickers;
  balances = m.accounts;
  exchange = m.exchange;
  orders = m.book.orders;
  next_order = m.next_order;
  batches = m.batches;
  last_prices = m.last_prices;
}
