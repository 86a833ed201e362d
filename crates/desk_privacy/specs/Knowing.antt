-- What an account knows of a market of many senders.
use Rattle.std.specs.Prelude.{◌≡◌, ℕ, length}
use Rattle.flow_accounts.specs.Balances.{credit_of, account_count}
use Rattle.market_rules.specs.Market.{Market, start_prices}
use Rattle.answer_text.specs.declared.header.Recipient.TheVariants.{Desk, All}
use Rattle.statement_rules.specs.Holdings.{held_in, IsHeld}
use Rattle.desk_messages.specs.Desks.{Desks, tally_of}

-- Two markets are alike to an account: they have one version, the same assets, as many batches, and the same prices at which the next one starts. The account
-- is there in both or in neither, and has the same balances, the same live orders and the same credit in both.
pub record AreAlike (account : ℕ) (one other : Market) : Type 0 where
  pub version : one.version ≡ other.version
  pub holding : IsHeld account other (held_in account one)
  pub credit : credit_of one.balances account ≡ credit_of other.balances account
  pub batches : one.batches ≡ other.batches
  pub prices : start_prices one ≡ start_prices other

-- two counts are alike to an account: as many lines of its own were counted, and as many messages to it and to all
pub record CountsAlike (account : ℕ) (one other : Desks) : Type 0 where
  pub own : tally_of one (Desk account) ≡ tally_of other (Desk account)
  pub all : tally_of one All ≡ tally_of other All

-- each account of a market has its counts, and nobody else has
abbrev pub CountsAll : Market → Desks → Type 0
CountsAll m d = length d.accounts ≡ account_count m.balances
