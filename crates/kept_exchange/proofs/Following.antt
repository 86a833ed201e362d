-- What follows of each call that keeps a journal, and of each that serves lines.
use Rattle.std.proofs.Common.{◌≡◌, ℕ, List, IfSome}
use Rattle.disk_edge.specs.Disks.{DiskState, IsDisk}
use Rattle.journal_keeping.specs.Dialogs.{record_dialog}
use Rattle.journal_keeping.proofs.Dialogs.{may_begin_again}
use Rattle.line_keeping.specs.Keeping.{line_dialog}
use Rattle.exit_status.specs.declared.status.Status.TheVariants.{WriteFault}
use Rattle.kept_exchange.specs.Keeping.{EndsWith}
use Rattle.kept_exchange.specs.Lines.{LinesEndWith}
use Rattle.kept_exchange.specs.Laws.{KeepFollows, LinesFollow}
use Rattle.kept_exchange.proofs.AsStatus.{if_some}
use Rattle.kept_exchange.proofs.Refusing.{not_refused}
use Rattle.kept_exchange.proofs.Determined.{determined, lines_determined}

pub keep_follows : (start end : DiskState) → IsDisk end → KeepFollows start end
keep_follows start end is_disk limit ends source out later notes serves = record {
  again = λ begin old market holds.
      may_begin_again record_dialog limit source.before (ends ≡ WriteFault) begin start end old market out later holds is_disk (serves.keeps begin old market holds);
  opens = λ begin old market holds small refusal.
      not_refused start begin old market holds small (EndsWith limit start.content end source out later)
      (λ refused. if_some start.content _ _ (λ (held : List ℕ) so. so.1.0) refused) (λ place refused. if_some start.content _ _ (λ (held : List ℕ) so. so.1.0) refused)
      (λ number refused. if_some start.content _ _ (λ (held : List ℕ) so. so.1.0) refused) ends serves.ends refusal;
  complete = λ no_disk no_read no_write memory.
      determined limit end source out later ends start.content serves.ends (λ e. no_read (serves.reads.rose e)) (λ e. no_write (serves.writes.rose e)) (λ e. no_disk (serves.disks.rose e)) memory;
}

pub lines_follow : (start end : DiskState) → IsDisk end → LinesFollow start end
lines_follow start end is_disk limit ends source out later notes serves = record {
  again = λ begin old market holds.
      may_begin_again line_dialog limit source.before (ends ≡ WriteFault) begin start end old market out later holds is_disk (serves.keeps begin old market holds);
  opens = λ begin old market holds small refusal.
      not_refused start begin old market holds small (λ status. IfSome start.content (λ held. LinesEndWith limit held source.before source.after end out later status))
      (λ refused. if_some start.content _ _ (λ (held : List ℕ) so. so.1.0) refused) (λ place refused. if_some start.content _ _ (λ (held : List ℕ) so. so.1.0) refused)
      (λ number refused. if_some start.content _ _ (λ (held : List ℕ) so. so.1.0) refused) ends serves.comes refusal;
  complete = λ no_disk no_read no_write memory.
      lines_determined limit source.before source.after end out later ends start.content serves.comes (λ e. no_read (serves.reads.rose e)) (λ e. no_write (serves.writes.rose e)) (λ e. no_disk (serves.disks.rose e)) memory;
}
