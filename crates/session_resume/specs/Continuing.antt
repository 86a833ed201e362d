-- What new commands make of the market that is resumed.
use Rattle.std.specs.Prelude.{◌≡◌, ◌+◌, ◌^◌, ◌<◌, ℕ, List, All, length}
use Rattle.std.specs.List.{flat_map}
use Rattle.wire_records.specs.Records.{Record}
use Rattle.wire_records.specs.Commands.{Pair}
use Rattle.wire_records.specs.Versions.{IsReadAs}
use Rattle.flow_orders.specs.Outcomes.{Outcome}
use Rattle.canonical_rule.specs.Canonical.{IsCanonicalOutcome}
use Rattle.journal_records.specs.Pairs.{IsPair, pair_encoding}
use Rattle.market_rules.specs.Market.{Market}
use Rattle.market_rules.specs.Journal.{IsAnswered}

-- The text is that of entries that answer these records from the old market on, each with its one answer by the canonical rule, and they
-- lead to the new market; no magic is before them. All entries fit their widths, while the numbers that their orders may get have 64 bits.
pub record Continues (old : Market) (records : List Record) (new : Market) (text : List ℕ) : Type 0 where
  pub pairs : List (Pair Record Outcome)
  pub answered : IsAnswered IsReadAs IsCanonicalOutcome old records pairs new
  pub fits : old.next_order + length pairs < 2 ^ 64 → All IsPair pairs
  pub encoded : text ≡ flat_map pair_encoding pairs
