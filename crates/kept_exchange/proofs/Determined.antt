-- If nothing failed, the bytes of the disk and of the source determine the status.
use Rattle.std.proofs.Common.{◌≢◌, inl, inr, ℕ, List, subst, sym, take, Option, Some, None, IfSome, refl, ap}
use Rattle.flow_io.specs.Changes.{Change}
use Rattle.wire_records.specs.Records.{Record}
use Rattle.wire_records.specs.Reading as reading
use Rattle.wire_records.specs.Commands.{Pair}
use Rattle.flow_orders.specs.Outcomes.{Outcome}
use Rattle.market_rules.specs.Market.{Market}
use Rattle.market_snapshot.specs.Checkpoints.{checkpoint_bytes}
use Rattle.market_history.specs.Histories.{Start, Empty, Kept}
use Rattle.disk_edge.specs.Disks.{DiskState}
use Rattle.journal_keeping.specs.Inputs.{BeginsUnsound}
use Rattle.journal_keeping.specs.Openings.{OpensAs}
use Rattle.journal_keeping.specs.Openings as opening
use Rattle.journal_keeping.specs.Ended.{HasKeptAll, HasLeftAll}
use Rattle.journal_keeping.proofs.SourceStart.{unsound_none}
use Rattle.line_keeping.specs.Inputs.{IsBefore, HasLinesWithin, line_starts}
use Rattle.journal_keeping.specs.Outputs.{Output}
use Rattle.exit_status.specs.Statuses.{ending_status}
use Rattle.exit_status.specs.declared.status.Status.{Status}
use Rattle.exit_status.specs.declared.status.Status.TheVariants as status
use Rattle.kept_exchange.specs.Statuses.{AsksStatus, IsEnd, LinesAskStatus}
use Rattle.kept_exchange.specs.Keeping.{EndsWith}
use Rattle.kept_exchange.specs.Lines.{LinesEndWith}
use Rattle.kept_exchange.specs.Laws.{Determines}
use Rattle.kept_exchange.proofs.AsStatus.{if_some, each}
use Rattle.kept_exchange.proofs.OneStatus.{one_status}
use Rattle.kept_exchange.proofs.OneLinesStatus as line
use Rattle.journal_keeping.specs.Starts.{source_starts}
use Rattle.journal_keeping.specs.Dialogs.{asked_of}

module _ (limit : ℕ) (held : List ℕ) (end : DiskState) (source : Change) (out later : Output) where
  -- the content of the source, if it is known, leads to this status
  abbrev Asked : Status → Type 0
  Asked ends = IfSome source.before (λ bytes. AsksStatus limit held bytes ends)

  -- all was kept: the status is that of the reading
  asks_all : (ending : reading.Ending) → HasKeptAll limit held source.before end out later ending → Asked (ending_status limit ending)
  asks_all ending has = by_opening has.opens
    where
      by_opening : OpensAs source_starts held has.begin has.old has.market has.input → Asked (ending_status limit ending)
      by_opening (inl legal) =
          if_some source.before _ _ (λ (bytes : List ℕ) reads. (opening.Legal has.begin has.old has.market, legal.0, (reading.File has.input (asked_of has.new) ending, (legal.1, reads), refl))) has.are.0
      by_opening (inr new) = if_some source.before _ _ (λ (bytes : List ℕ) reads. (opening.New, new.0, (reading.File has.input (asked_of has.new) ending, reads, refl))) has.are.0

  -- the source was no command file, nor a checkpoint and one
  asks_left : HasLeftAll limit held source.before end → Asked status.NotFlow
  asks_left (inl kept) = if_some source.before _ _ (λ (bytes : List ℕ) none. (opening.Legal kept.0 kept.1 kept.2, kept.3, (reading.NotFlow, none, refl))) kept.4
  asks_left (inr new) = if_some source.before _ _ (λ (bytes : List ℕ) other. (opening.New, new.0, (reading.NotFlow, other.0, inr (other.1, refl)))) new.1

  -- but for faults and running out of memory, the status is one that the bytes lead to
  asks : (ends : Status) → EndsWith limit (Some held) end source out later ends → ends ≢ status.ReadFault → ends ≢ status.WriteFault → ends ≢ status.DiskFault → ends ≢ status.NoMemory → Asked ends
  asks status.Done x r w d m = asks_all reading.End x.0
  asks (status.Torn place) x r w d m = asks_all (reading.Torn place) x
  asks (status.TooLong most) x r w d m = subst (λ (n : ℕ). Asked (status.TooLong n)) (sym x.1) (asks_all reading.TooLong x.0)
  asks status.NotFlow x r w d m = asks_left x.1
  asks status.BadCheckpoint x r w d m =
      if_some source.before _ _ (λ (bytes : List ℕ) unsound. (opening.New, x.1.0, (reading.NotFlow, unsound_none (take limit bytes) unsound.0 unsound.1, inl (unsound, refl)))) x.1.1
  asks status.NotDisk x r w d m = each source.before _ (λ (bytes : List ℕ). (opening.Foreign, x.1.0, refl))
  asks (status.Damaged place) x r w d m = each source.before _ (λ (bytes : List ℕ). (opening.Damaged place, x.1.0, refl))
  asks (status.Rejected number) x r w d m = each source.before _ (λ (bytes : List ℕ). (opening.Rejected number, x.1.0, refl))
  asks status.ReadFault x r w d m = absurd (r refl)
  asks status.WriteFault x r w d m = absurd (w refl)
  asks status.DiskFault x r w d m = absurd (d refl)
  asks status.NoMemory x r w d m = absurd (m refl)
  asks status.Usage x r w d m = absurd x
  asks (status.BadText number) x r w d m = absurd x
  asks (status.NoAccount number) x r w d m = absurd x
  asks (status.Differs number) x r w d m = absurd x

module _ (limit : ℕ) (end : DiskState) (source : Change) (out later : Output) (ends : Status) where
  -- if no call failed and memory was there, the bytes determine the status of keeping a journal
  pub determined : (content : Option (List ℕ)) → EndsWith limit content end source out later ends → ends ≢ status.ReadFault → ends ≢ status.WriteFault → ends ≢ status.DiskFault → ends ≢ status.NoMemory
      → IfSome content (λ held. IfSome source.before (λ bytes. Determines (AsksStatus limit) held bytes ends))
  determined None x r w d m = tt
  determined (Some held) x r w d m =
      if_some source.before _ _ (λ (bytes : List ℕ) asked. (asked, λ other also. one_status limit held bytes other ends also asked)) (asks limit held end source out later ends x r w d m)

-- ---- lines

-- what is before the lines isn't an unsound checkpoint
sound : (bytes : List ℕ) (before : Start) (text : List ℕ) → IsBefore bytes before text → ¬ BeginsUnsound bytes
sound bytes (Empty version) text is unsound = is.0 unsound.0
sound bytes (Kept market) text is unsound = unsound.1 market (checkpoint_bytes market) text is.0 is.1

module _ (limit : ℕ) (held : List ℕ) (content left : Option (List ℕ)) (end : DiskState) (out later : Output) where
  -- the input, if its content is known, leads to this status
  abbrev LinesAsked : Status → Type 0
  LinesAsked ends = IfSome content (λ bytes. LinesAskStatus limit held bytes ends)

  -- all lines were answered: the status is that of their end
  asks_end : (bytes : List ℕ) (begin : Start) (old : List (Pair Record Outcome)) (market : Market) (before : Start) (read : List (List ℕ)) (ends : Status)
      → OpensAs line_starts held begin old market before → HasLinesWithin limit bytes before read → IsEnd limit bytes ends → LinesAskStatus limit held bytes ends
  asks_end bytes begin old market before read ends (inl legal) has at_end =
      let has_none = subst (λ (b : Start). HasLinesWithin limit bytes b read) legal.1 has in
      (opening.Legal begin old market, legal.0, inr (has_none.1.0, at_end))
  asks_end bytes begin old market before read ends (inr new) has at_end = (opening.New, new.0, inr (sound (take limit bytes) before has.0 has.1, at_end))

  lines_ask : (ends : Status) → LinesEndWith limit held content left end out later ends → ends ≢ status.ReadFault → ends ≢ status.WriteFault → ends ≢ status.DiskFault → ends ≢ status.NoMemory → LinesAsked ends
  lines_ask status.Done x r w d m = if_some content _ _ (λ (bytes : List ℕ) are. asks_end bytes x.begin x.old x.market x.input x.are.0 status.Done x.opens are.0 (inl (are.1, refl))) x.are.1
  lines_ask (status.TooLong most) x r w d m =
      if_some content _ _ (λ (bytes : List ℕ) are. asks_end bytes x.0.begin x.0.old x.0.market x.0.input x.0.are.0 (status.TooLong most) x.0.opens are.0 (inr (are.1, ap status.TooLong x.1))) x.0.are.1
  lines_ask status.NotFlow x r w d m = if_some content _ _ (λ (bytes : List ℕ) magic. (opening.Legal x.1 x.2 x.3, x.4, inl (magic, refl))) x.5
  lines_ask status.BadCheckpoint x r w d m = if_some content _ _ (λ (bytes : List ℕ) unsound. (opening.New, x.1.0, inl (unsound, refl))) x.1.1
  lines_ask status.NotDisk x r w d m = each content _ (λ (bytes : List ℕ). (opening.Foreign, x.1.0, refl))
  lines_ask (status.Damaged place) x r w d m = each content _ (λ (bytes : List ℕ). (opening.Damaged place, x.1.0, refl))
  lines_ask (status.Rejected number) x r w d m = each content _ (λ (bytes : List ℕ). (opening.Rejected number, x.1.0, refl))
  lines_ask status.ReadFault x r w d m = absurd (r refl)
  lines_ask status.WriteFault x r w d m = absurd (w refl)
  lines_ask status.DiskFault x r w d m = absurd (d refl)
  lines_ask status.NoMemory x r w d m = absurd (m refl)
  lines_ask (status.Torn place) x r w d m = absurd x
  lines_ask status.Usage x r w d m = absurd x
  lines_ask (status.BadText number) x r w d m = absurd x
  lines_ask (status.NoAccount number) x r w d m = absurd x
  lines_ask (status.Differs number) x r w d m = absurd x

module _ (limit : ℕ) (content left : Option (List ℕ)) (end : DiskState) (out later : Output) (ends : Status) where
  -- if no call failed and memory was there, the bytes determine the status of serving lines
  pub lines_determined : (kept : Option (List ℕ)) → IfSome kept (λ held. LinesEndWith limit held content left end out later ends) → ends ≢ status.ReadFault → ends ≢ status.WriteFault → ends ≢ status.DiskFault → ends ≢ status.NoMemory
      → IfSome kept (λ held. IfSome content (λ bytes. Determines (LinesAskStatus limit) held bytes ends))
  lines_determined None x r w d m = tt
  lines_determined (Some held) x r w d m =
      if_some content _ _ (λ (bytes : List ℕ) asked. (asked, λ other also. line.one_status limit held bytes other ends also asked)) (lines_ask limit held content left end out later ends x r w d m)
