-- The summary of a sample.
use Rattle.std.specs.Prelude.{◌≡◌, ℕ, List, ◌++◌, map, codes, decimal}
use Rattle.std.specs.List.{sum_by}
use Rattle.wire_records.specs.Records.{Record}
use Rattle.wire_records.specs.Commands.{Answer, Plain, Batch, Pair}
use Rattle.wire_records.specs.CommandRecords.{record_of}
use Rattle.wire_records.specs.declared.version.Version.TheVariants.{One}
use Rattle.flow_orders.specs.Outcomes.{Outcome, Cleared, Skipped}
use Rattle.market_rules.specs.Market.{Market}
use Rattle.batch_audit.specs.Legal.{IsLegalJournal}
use Rattle.journal_replay.specs.Audits.{cleared_in, skipped_in}
use Rattle.exchange_session.specs.Journals.{Journals}
use Rattle.sample_market.specs.Files.{sample}

-- the most orders of a sample
abbrev pub most_sampled : ℕ
most_sampled = 16384

-- how many units the orders of a batch that cleared trade together: the sum of their rates; 0 for any other answer
abbrev pub units_by : Answer Outcome → ℕ
units_by (Plain reply) = 0
units_by (Batch number (Cleared c)) = sum_by (λ f. f.rate) c.fills
units_by (Batch number (Skipped s)) = 0

-- the sum of all published rates
abbrev pub units_traded_in : List (Pair Record Outcome) → ℕ
units_traded_in pairs = sum_by (λ pair. units_by pair.answer) pairs

-- the line on a sample of so many orders
abbrev pub summary_line : (orders cleared skipped units : ℕ) → List ℕ
summary_line orders cleared skipped units =
    (codes "orders " ++ decimal orders ++ codes " batches 4 ") ++ (codes "cleared " ++ decimal cleared ++ codes " ")
    ++ (codes "skipped " ++ decimal skipped ++ codes " ") ++ (codes "units " ++ decimal units ++ codes "\n")

-- The line is that of the journal that a run of the sample's command file writes, which is valid. There is one such
-- journal, and so one line.
pub record Summarizes (number orders : ℕ) (line : List ℕ) : Type 0 where
  pub market : Market
  pub journal : List ℕ
  pub writes : Journals One (map record_of (sample number orders)) market journal
  pub legal : IsLegalJournal One writes.pairs market
  pub told : line ≡ summary_line orders (cleared_in writes.pairs) (skipped_in writes.pairs) (units_traded_in writes.pairs)
