-- The part of a checkpoint that precedes the orders.
use Rattle.std.specs.Prelude.{ℕ, List, ◌++◌}
use Rattle.market_rules.specs.Market.{Market}
use Rattle.wire_records.specs.Versions.{number_of}
use Rattle.market_snapshot.specs.Encodings.{tickers_encoding, accounts_encoding, totals_encoding, exchange_encoding, batches_encoding}

-- the bytes of all parts of a market but its orders
unfoldable pub fields_encoding : Market → List ℕ
fields_encoding m =
    tickers_encoding (number_of m.version) m.tickers ++ (accounts_encoding m.balances ++ (totals_encoding m.balances ++ (exchange_encoding m.exchange
    ++ batches_encoding m.next_order m.batches m.last_prices)))
