-- A sample has one line, since its commands have one journal.
use Rattle.std.proofs.Common.{List, map, sym, ap, ◌∙◌}
use Rattle.wire_records.specs.Records.{Record}
use Rattle.wire_records.specs.Commands.{Pair}
use Rattle.wire_records.specs.CommandRecords.{record_of}
use Rattle.wire_records.specs.Versions.{IsReadAs}
use Rattle.wire_records.specs.declared.version.Version.TheVariants.{One}
use Rattle.wire_records.proofs.Readings.{reading_unique}
use Rattle.flow_orders.specs.Outcomes.{Outcome}
use Rattle.canonical_journals.proofs.OneCanonicalJournal.{one_canonical_journal}
use Rattle.journal_replay.specs.Audits.{cleared_in, skipped_in}
use Rattle.sample_market.specs.Files.{sample}
use Rattle.sample_summary.specs.Summary.{units_traded_in, summary_line}
use Rattle.sample_summary.specs.Laws.{OneSummary}

pub one_summary : OneSummary
one_summary number orders x y a b =
    let one = one_canonical_journal IsReadAs reading_unique One (map record_of (sample number orders)) a.writes.pairs b.writes.pairs a.market b.market a.writes.journal_of b.writes.journal_of in
    a.told ∙ ap (λ (pairs : List (Pair Record Outcome)). summary_line orders (cleared_in pairs) (skipped_in pairs) (units_traded_in pairs)) one.0 ∙ sym b.told
