-- A call that keeps a journal does what is promised of it.
use Rattle.std.proofs.Common.{◌≡◌, ◌+◌, ℕ, List, Result, Err, OnOk, OnErr, IsErr, ap}
use Rattle.flow_io.specs.Faults.{Blames}
use Rattle.flow_io.specs.Streams.{Grows, GrowsByPrefix, TakesAtMost}
use Rattle.flow_io.specs.Changes.{Change}
use Rattle.flow_io.specs.declared.sink.WriteFailed.{WriteFailed}
use Rattle.wire_records.specs.Records.{Record}
use Rattle.wire_records.specs.Commands.{Pair}
use Rattle.flow_orders.specs.Outcomes.{Outcome}
use Rattle.market_rules.specs.Market.{Market}
use Rattle.market_history.specs.Histories.{Start}
use Rattle.disk_edge.specs.Disks.{DiskState}
use Rattle.journal_keeping.specs.Keeping.{HoldsLegal}
use Rattle.journal_keeping.specs.Outputs.{Output}
use Rattle.journal_keeping.specs.Dialogs.{ServesIn, record_dialog}
use Rattle.journal_keeping.proofs.Dialogs.{serves_wider}
use Rattle.journal_keeping.specs.declared.fault.KeepFault.TheVariants.{Read, Write, Disk}
use Rattle.exit_status.specs.declared.status.Status.TheVariants as status
use Rattle.exit_status.specs.Statuses.{line_of}
use Rattle.exit_status.proofs.Noted.{written, cut_line}
use Rattle.kept_exchange.specs.Statuses.{kept_status}
use Rattle.kept_exchange.specs.Keeping.{ServesKeep}
use Rattle.kept_exchange.proofs.AsStatus.{Kept, blames_as, one_result}
use Rattle.kept_exchange.proofs.Ends.{ByResult, ends_as}

module _ (limit : ℕ) (result : Kept) (start end : DiskState) (source : Change) (out later : Output) where
  pub serves : (notes : Change) (noting : Result (Unit {0}) WriteFailed)
      → ((begin : Start) (old : List (Pair Record Outcome)) (market : Market) → HoldsLegal start begin old market → ServesIn record_dialog limit source.before (◌≡◌ {A = Kept} result (Err Write)) begin start end old market out later)
      → ByResult limit start.content end source out later result
      → TakesAtMost source.before source.after (limit + 1)
      → Blames (◌≡◌ {A = Kept} result (Err Disk)) start.faults end.faults
      → Blames (◌≡◌ {A = Kept} result (Err Read)) source.faults source.faults_after
      → Blames (◌≡◌ {A = Kept} result (Err Write)) out.faults later.faults
      → OnOk noting (Grows notes.before notes.after (line_of (kept_status limit result)))
      → OnErr noting (GrowsByPrefix notes.before notes.after (line_of (kept_status limit result)))
      → Blames (IsErr noting) notes.faults notes.faults_after
      → ServesKeep limit (kept_status limit result) start end source out later notes
  serves notes noting keeps ended taken disk read write line prefix cause = record {
    keeps = λ begin old market holds. serves_wider record_dialog limit source.before (◌≡◌ {A = Kept} result (Err Write)) (kept_status limit result ≡ status.WriteFault) begin start end old market out later (ap (kept_status limit)) (keeps begin old market holds);
    ends = ends_as limit start.content end source out later result ended;
    taken = taken;
    disks = blames_as _ _ _ _ (ap (kept_status limit)) (one_result limit result (Err Disk)) disk;
    reads = blames_as _ _ _ _ (ap (kept_status limit)) (one_result limit result (Err Read)) read;
    writes = blames_as _ _ _ _ (ap (kept_status limit)) (one_result limit result (Err Write)) write;
    noted = written noting notes.before notes.after (line_of (kept_status limit result)) notes.faults notes.faults_after line cause;
    cut = cut_line noting notes.before notes.after (line_of (kept_status limit result)) line prefix;
  }
