-- Definitions that only private code uses: the state of an audit from entry to entry.
use Rattle.std.specs.Prelude.{◌≡◌, ◌+◌, ◌<◌, ◌^◌, ℕ}
use Rattle.wire_records.specs.Records.{Record}
use Rattle.market_rules.specs.Market.{Market}
use Rattle.market_rules.specs.Allocating.{RecordMayAllocate}
use Rattle.batch_audit.specs.Legal.{IsLegalPair, IsIllegalPair}
use Rattle.journal_replay.specs.declared.auditing.Auditing.{Auditing}
use Rattle.journal_replay.specs.declared.auditing.PairFault.{PairFault}
use Rattle.journal_replay.specs.declared.auditing.PairFault.TheVariants.{Illegal, Memory}

-- the market, and how many entries were valid
pub record State : Type 0 where
  pub market : Market
  pub pairs : ℕ

-- the state of an audit of entries
abbrev pub state_of : Auditing → State
state_of a = record { market = a.audit; pairs = a.pairs }

-- a valid entry makes the new market and is counted
pub record CountsLegal (old : State) (pair : Record × Record) (new : State) : Type 0 where
  pub legal : IsLegalPair old.market pair new.market
  pub pairs : new.pairs ≡ old.pairs + 1

-- the next entry is invalid, or its command may allocate
abbrev pub BreaksOffWith : State → Record × Record → PairFault → Type 0
BreaksOffWith old pair (Illegal number) = IsIllegalPair old.market pair × (number ≡ old.pairs + 1)
BreaksOffWith old pair Memory = RecordMayAllocate old.market pair.0

-- the numbers of orders and entries stay below 2^64 while so many bytes are left
pub record CountersFit (s : State) (left : ℕ) : Type 0 where
  pub numbers : s.market.next_order + left < 2 ^ 64
  pub pairs : s.pairs + left < 2 ^ 64
