-- The journal of command records.
use Rattle.std.specs.Prelude.{◌≡◌, ◌^◌, ◌<◌, ℕ, List, All}
use Rattle.wire_records.specs.Records.{Record}
use Rattle.wire_records.specs.Commands.{Pair}
use Rattle.wire_records.specs.Versions.{IsReadAs}
use Rattle.wire_records.specs.declared.version.Version.{Version}
use Rattle.flow_orders.specs.Outcomes.{Outcome}
use Rattle.canonical_rule.specs.Canonical.{IsCanonicalOutcome}
use Rattle.journal_records.specs.Pairs.{IsPair}
use Rattle.journal_records.specs.Formats.{journal_in}
use Rattle.market_rules.specs.Market.{Market}
use Rattle.market_rules.specs.Journal.{IsJournal}

-- The text is the journal of these command records in a version, each with its one answer by the canonical rule, and it
-- leads to this market. All entries fit their widths, while the number of the next order has 64 bits.
pub record Journals (version : Version) (records : List Record) (market : Market) (text : List ℕ) : Type 0 where
  pub pairs : List (Pair Record Outcome)
  pub journal_of : IsJournal IsReadAs IsCanonicalOutcome version records pairs market
  pub fits : market.next_order < 2 ^ 64 → All IsPair pairs
  pub encoded : text ≡ journal_in version pairs
