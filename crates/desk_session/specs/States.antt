-- What a session of many senders holds, and what one command makes of it.
use Rattle.std.specs.Prelude.{◌≡◌, ◌≢◌, ℕ, ◌+◌, ◌^◌, ◌<◌, List, length}
use Rattle.wire_records.specs.Records.{Record}
use Rattle.wire_records.specs.Commands.{Command, Pair}
use Rattle.wire_records.specs.CommandRecords.{record_of}
use Rattle.wire_records.specs.Versions.{IsReadAs}
use Rattle.flow_accounts.specs.Balances.{account_count}
use Rattle.flow_orders.specs.Outcomes.{Outcome, BatchRule, IsAdmissibleOutcome}
use Rattle.canonical_rule.specs.Canonical.{IsCanonicalOutcome}
use Rattle.journal_records.specs.Pairs.{IsPair, pair_encoding}
use Rattle.journal_records.specs.Replies.{EncodesAnswer}
use Rattle.market_rules.specs.Market.{Market}
use Rattle.market_rules.specs.Journal.{Step}
use Rattle.batch_audit.specs.Legal.{IsIllegalPair}
use Rattle.answer_text.specs.declared.header.Recipient.{Recipient}
use Rattle.desk_messages.specs.Messages.{opened_by}
use Rattle.desk_session.specs.Talks.{Talk, says_of}
use Rattle.desk_session.specs.Lines.{entry_messages}
use Rattle.desk_session.specs.declared.session.Replayed.{Replayed}
use Rattle.desk_session.specs.declared.session.Replayed.TheVariants.{Same, Differs, Rejected}

-- the market, the counts and the texts that are to be written, how many entries there were, and the bytes of the last one that was served
pub record State : Type 0 where
  pub market : Market
  pub talk : Talk
  pub entries : ℕ
  pub entry : List ℕ

-- each account of the market has its counts, and nobody else has
abbrev pub CountsAccounts : State → Type 0
CountsAccounts s = length s.talk.desks.accounts ≡ account_count s.market.balances

-- There is room for one more entry: the numbers of orders, entries and messages have 64 bits. A batch tells each account at most once.
pub record HasRoom (s : State) : Type 0 where
  pub orders : s.market.next_order + 1 < 2 ^ 64
  pub entries : s.entries + 1 < 2 ^ 64
  pub messages : s.talk.desks.total.messages + (length s.talk.desks.accounts + 3) < 2 ^ 64

-- A command of a line got this entry, by one step of the market under a rule, and one text tells of it.
pub record Answers (Rule : BatchRule) (old : State) (sender : Recipient) (line : ℕ) (command : Command) (pair : Pair Record Outcome) (new : State) : Type 0 where
  pub asked : pair.asked ≡ record_of command
  pub step : Step IsReadAs Rule old.market pair.asked pair.answer new.market
  pub told : new.talk ≡ says_of old.talk (opened_by pair.answer) (λ d. entry_messages d old.market new.market sender line (old.entries + 1) command pair.answer)
  pub counted : new.entries ≡ old.entries + 1

-- a command was served by the canonical rule, and its entry, which is one that a journal may have, is in the buffer
pub record Serves (old : State) (sender : Recipient) (line : ℕ) (command : Command) (pair : Pair Record Outcome) (new : State) : Type 0 where
  pub answers : Answers IsCanonicalOutcome old sender line command pair new
  pub fits : IsPair pair
  pub entry : new.entry ≡ pair_encoding pair

-- nothing came of an entry: all is as before but the buffer
pub record IsUntouched (old new : State) : Type 0 where
  pub market : new.market ≡ old.market
  pub talk : new.talk ≡ old.talk
  pub entries : new.entries ≡ old.entries

-- what came of an entry, as two records, that was taken for a command: which comes first, that it isn't valid or that it is of another record
abbrev pub IsReplayed : Replayed → State → Recipient → ℕ → Command → Record × Record → State → Type 0
IsReplayed Same old sender line command pair new =
    (taken : Pair Record Outcome) × (pair.0 ≡ taken.asked) × EncodesAnswer pair.1 taken.answer × Answers IsAdmissibleOutcome old sender line command taken new
IsReplayed Differs old sender line command pair new = (pair.0 ≢ record_of command) × (¬ IsIllegalPair old.market pair) × IsUntouched old new
IsReplayed Rejected old sender line command pair new = IsIllegalPair old.market pair × IsUntouched old new
