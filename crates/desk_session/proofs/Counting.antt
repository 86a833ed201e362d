-- How many accounts there are after a step.
use Rattle.std.proofs.Common.{◌≡◌, ℕ, ◌+◌, length, Option, Some, None, Result, Ok, Err, refl}
use Rattle.std.proofs.lemmas.List.{length-map, length-set, length_push}
use Rattle.wire_records.specs.Records.{Record}
use Rattle.wire_records.specs.Commands.{Command, AddAsset, OpenAccount, Deposit, Withdraw, Place, CancelOrder, RunBatch, SetCredit, Answer}
use Rattle.wire_records.specs.Versions.{IsReadAs}
use Rattle.wire_records.specs.declared.command.BodyFault.{BodyFault}
use Rattle.wire_records.specs.declared.reply.Refusal.{Refusal}
use Rattle.flow_accounts.specs.Balances.{account_count, with_asset}
use Rattle.flow_orders.specs.Outcomes.{Outcome, Cleared, Skipped, BatchRule, trades_of}
use Rattle.fill_caps.proofs.SettledBalances.{settles}
use Rattle.market_rules.specs.Market.{Market}
use Rattle.market_rules.specs.Step.{Accepts, ServesRead, after_batch}
use Rattle.market_rules.specs.Journal.{Step}
use Rattle.market_rules.proofs.ByFirst.{Answers}
use Rattle.desk_messages.specs.Desks.{Desks}
use Rattle.desk_messages.specs.Messages.{opened_by, with_opened}

-- one account more, if one was opened
abbrev pub with_more : Option ℕ → ℕ → ℕ
with_more None accounts = accounts
with_more (Some account) accounts = accounts + 1

pub opened_accounts : (o : Option ℕ) (d : Desks) → length (with_opened o d).accounts ≡ with_more o (length d.accounts)
opened_accounts None d = refl
opened_accounts (Some account) d = length_push d.accounts _

batch_accounts : (m : Market) (o : Outcome) → account_count (after_batch m o).balances ≡ account_count m.balances
batch_accounts m (Cleared c) = (settles c.prices (trades_of m.orders c.fills) m.balances m.exchange).accounts
batch_accounts m (Skipped s) = refl

-- a batch adds no asset
pub batch_tickers : (m : Market) (o : Outcome) → (after_batch m o).tickers ≡ m.tickers
batch_tickers m (Cleared c) = refl
batch_tickers m (Skipped s) = refl

-- a batch places no order
pub batch_numbers : (m : Market) (o : Outcome) → (after_batch m o).next_order ≡ m.next_order
batch_numbers m (Cleared c) = refl
batch_numbers m (Skipped s) = refl

-- a step opens the account that is answered, and no other
module _ (Rule : BatchRule) where
  accepted_accounts : (m : Market) (c : Command) (a : Answer Outcome) (n : Market) → Accepts Rule m c a n → account_count n.balances ≡ with_more (opened_by a) (account_count m.balances)
  accepted_accounts m (AddAsset ticker) a n accepts = rw (accepts.0, accepts.1) (length-map m.balances.accounts with_asset)
  accepted_accounts m OpenAccount a n accepts = rw (accepts.0, accepts.1) (length_push m.balances.accounts _)
  accepted_accounts m (Deposit account kind count) a n accepts = rw (accepts.0, accepts.1) (length-set m.balances.accounts _ _)
  accepted_accounts m (Withdraw account kind count) a n accepts = rw (accepts.0, accepts.1) (length-set m.balances.accounts _ _)
  accepted_accounts m (Place last r) a n accepts = rw (accepts.0, accepts.1) refl
  accepted_accounts m (CancelOrder account number) a n accepts = rw (accepts.0, accepts.1) refl
  accepted_accounts m (RunBatch budget) a n accepts = rw (accepts.2.0, accepts.2.1) (batch_accounts m accepts.0)
  accepted_accounts m (SetCredit account kind count) a n accepts = rw (accepts.0, accepts.1) refl

  answered_accounts : (m : Market) (c : Command) (first : Option Refusal) (a : Answer Outcome) (n : Market) → Answers Rule m c first a n → account_count n.balances ≡ with_more (opened_by a) (account_count m.balances)
  answered_accounts m c (Some refusal) a n answers = rw (answers.0, answers.1) refl
  answered_accounts m c None a n answers = accepted_accounts m c a n answers

  read_accounts : (m : Market) (read : Result Command BodyFault) (a : Answer Outcome) (n : Market) → ServesRead Rule m read a n → account_count n.balances ≡ with_more (opened_by a) (account_count m.balances)
  read_accounts m (Ok c) a n served = answered_accounts m c served.first a n served.answered
  read_accounts m (Err why) a n served = rw (served.0, served.1) refl

  pub step_accounts : (m : Market) (asked : Record) (a : Answer Outcome) (n : Market) → Step IsReadAs Rule m asked a n → account_count n.balances ≡ with_more (opened_by a) (account_count m.balances)
  step_accounts m asked a n step = read_accounts m step.read a n step.served
