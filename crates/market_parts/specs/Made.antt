-- What is made of the parts of a consistent market.
use Rattle.std.specs.Prelude.{◌≡◌, ◌<◌, ◌^◌, map}
use Rattle.market_rules.specs.Market.{IsConsistent}
use Rattle.wire_records.specs.Versions.{number_of}
use Rattle.market_parts.specs.Parts.{Parts, order_of, market_of}
use Rattle.market_parts.specs.declared.made.ConsistentParts.{ConsistentParts}

-- the parts are those of a consistent market, and what is made is its version, tickers, balances, exchange's account and orders
pub record AreMadeOf (p : Parts) (made : ConsistentParts) : Type 0 where
  pub version : p.version ≡ number_of made.version
  pub consistent : IsConsistent (market_of made.version p)
  pub next : p.next_order < 2 ^ 63
  pub tickers : made.tickers ≡ p.tickers
  pub balances : made.accounts ≡ p.balances
  pub exchange : made.exchange ≡ p.exchange
  pub orders : made.book.orders ≡ map order_of p.orders
