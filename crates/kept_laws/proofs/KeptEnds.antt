-- What `keep` results in, by how the disk was opened and what the source has: one result, one output, and one list of entries.
use Rattle.std.proofs.Common.{◌≡◌, ◌⊎◌, inl, inr, ℕ, List, ◌++◌, Some, Result, Ok, Err, take, map, refl, sym, ap, subst, ◌∙◌, append_assoc}
use Rattle.std.specs.Prelude.{⊤}
use Rattle.flow_io.specs.Streams.{Grows}
use Rattle.wire_records.specs.Records.{Record}
use Rattle.wire_records.specs.Grammars.{BeginsWith}
use Rattle.wire_records.specs.Reading.{Ending, Reading, File, Reads}
use Rattle.wire_records.specs.Reading as reading
use Rattle.wire_records.specs.Formats.{commands, command_magic_of}
use Rattle.wire_records.specs.declared.version.Version.{Version}
use Rattle.journal_records.specs.Pairs.{pair_encoding}
use Rattle.market_rules.specs.Market.{Market}
use Rattle.market_snapshot.specs.Checkpoints.{checkpoint_bytes}
use Rattle.market_history.specs.Histories.{Start, Empty, Kept, market_of}
use Rattle.disk_edge.specs.Disks.{DiskState}
use Rattle.journal_keeping.specs.Inputs.{BeginsUnsound}
use Rattle.journal_keeping.specs.Starts.{version_of, source_start, sources, source_starts, BeginsOtherwise}
use Rattle.journal_keeping.specs.Openings.{Opening, Foreign, New, Legal, IsOpening, OpensAs}
use Rattle.journal_keeping.specs.Openings as opening
use Rattle.journal_keeping.specs.Outputs.{Output}
use Rattle.journal_keeping.specs.Dialogs.{KeepsJust, asked_of}
use Rattle.journal_keeping.specs.Ended.{HasKeptAll, HasLeftAll, ComesTo}
use Rattle.journal_keeping.specs.declared.fault.KeepFault.{KeepFault}
use Rattle.journal_keeping.specs.declared.fault.KeepFault.TheVariants.{Read, Write, Disk, Memory, NotDisk, Damaged, Rejected, NotFlow, BadCheckpoint, Torn, TooLong}
use Rattle.journal_keeping.proofs.OneOpening.{one_opening}
use Rattle.journal_keeping.proofs.Starts.{no_command, one_reading}
use Rattle.journal_keeping.proofs.Gaining.{joined, whole_text}
use Rattle.kept_laws.specs.Laws.{IsFailure, GainAlike, LeaveAlike, OneKeptOutput}
use Rattle.kept_laws.proofs.Promised.{Pairs}
use Rattle.kept_laws.proofs.OneAnswer.{one_entries}
use Rattle.kept_laws.proofs.Alike.{legal_is, nothing_alike}

-- ---- one result

-- how a source ends, as a result
abbrev result_of : Ending → Result ⊤ KeepFault
result_of reading.End = Ok tt
result_of (reading.Torn place) = Err (Torn place)
result_of reading.TooLong = Err TooLong

-- a source without a checkpoint is a command file
pub as_command : (bytes : List ℕ) (input : Start) (version : Version) (body : List ℕ) → input ≡ Empty version → BeginsWith sources.magics bytes input body → BeginsWith commands.magics bytes version body
as_command bytes input version body is begins = (tt, begins.1 ∙ ap (λ (x : Start). source_start x ++ body) is)

-- a source doesn't begin with an unsound checkpoint
pub not_unsound : (bytes : List ℕ) (input : Start) (body : List ℕ) → BeginsWith sources.magics bytes input body → BeginsUnsound bytes → ⊥
not_unsound bytes (Empty version) body begins unsound = no_command version bytes body unsound.0 begins.1
not_unsound bytes (Kept market) body begins unsound =
    unsound.1 market (checkpoint_bytes market) (command_magic_of market.version ++ body) begins.0 (begins.1 ∙ append_assoc (checkpoint_bytes market) (command_magic_of market.version) body)

-- What a result that is no failure says of the source, by how the disk was opened.
abbrev EndsOn : ℕ → List ℕ → Opening → Result ⊤ KeepFault → Type 0
EndsOn limit bytes Foreign result = result ≡ Err NotDisk
EndsOn limit bytes (opening.Damaged place) result = result ≡ Err (Damaged place)
EndsOn limit bytes (opening.Rejected number) result = result ≡ Err (Rejected number)
EndsOn limit bytes New result =
    (BeginsOtherwise (take limit bytes) × (result ≡ Err NotFlow))
    ⊎ ((BeginsUnsound (take limit bytes) × (result ≡ Err BadCheckpoint))
    ⊎ ((input : Start) × (records : List Record) × (ending : Ending) × Reads sources limit bytes (File input records ending) × (result ≡ result_of ending)))
EndsOn limit bytes (Legal begin old market) result =
    (((body : List ℕ) → ¬ BeginsWith commands.magics (take limit bytes) (version_of begin) body) × (result ≡ Err NotFlow))
    ⊎ ((input : Start) × (records : List Record) × (ending : Ending) × (input ≡ Empty (version_of begin)) × Reads sources limit bytes (File input records ending) × (result ≡ result_of ending))

file_is : (v w : Start) (p q : List Record) (e f : Ending) → ◌≡◌ {A = Reading Start Record} (File v p e) (File w q f) → (v ≡ w) × (p ≡ q) × (e ≡ f)
file_is v w p q e f is = (cc, cc, cc)

one_file : (limit : ℕ) (bytes : List ℕ) (v w : Start) (p q : List Record) (e f : Ending) → Reads sources limit bytes (File v p e) → Reads sources limit bytes (File w q f) → (v ≡ w) × (p ≡ q) × (e ≡ f)
one_file limit bytes v w p q e f a b = file_is v w p q e f (one_reading limit bytes (File v p e) (File w q f) a b)

ends_one : (limit : ℕ) (bytes : List ℕ) (opens : Opening) (a b : Result ⊤ KeepFault) → EndsOn limit bytes opens a → EndsOn limit bytes opens b → a ≡ b
ends_one limit bytes Foreign a b x y = x ∙ sym y
ends_one limit bytes (opening.Damaged place) a b x y = x ∙ sym y
ends_one limit bytes (opening.Rejected number) a b x y = x ∙ sym y
ends_one limit bytes New a b (inl x) (inl y) = x.1 ∙ sym y.1
ends_one limit bytes New a b (inl x) (inr (inl y)) = absurd (x.0.1 y.0)
ends_one limit bytes New a b (inl x) (inr (inr y)) = absurd (x.0.0 y.0 y.3.0 y.3.1.0 y.3.1.1)
ends_one limit bytes New a b (inr (inl x)) (inl y) = absurd (y.0.1 x.0)
ends_one limit bytes New a b (inr (inl x)) (inr (inl y)) = x.1 ∙ sym y.1
ends_one limit bytes New a b (inr (inl x)) (inr (inr y)) = absurd (not_unsound (take limit bytes) y.0 y.3.0 y.3.1 x.0)
ends_one limit bytes New a b (inr (inr x)) (inl y) = absurd (y.0.0 x.0 x.3.0 x.3.1.0 x.3.1.1)
ends_one limit bytes New a b (inr (inr x)) (inr (inl y)) = absurd (not_unsound (take limit bytes) x.0 x.3.0 x.3.1 y.0)
ends_one limit bytes New a b (inr (inr x)) (inr (inr y)) = x.4 ∙ ap result_of (one_file limit bytes x.0 y.0 x.1 y.1 x.2 y.2 x.3 y.3).2 ∙ sym y.4
ends_one limit bytes (Legal begin old market) a b (inl x) (inl y) = x.1 ∙ sym y.1
ends_one limit bytes (Legal begin old market) a b (inl x) (inr y) = absurd (x.0 y.4.0 (as_command (take limit bytes) y.0 (version_of begin) y.4.0 y.3 y.4.1))
ends_one limit bytes (Legal begin old market) a b (inr x) (inl y) = absurd (y.0 x.4.0 (as_command (take limit bytes) x.0 (version_of begin) x.4.0 x.3 x.4.1))
ends_one limit bytes (Legal begin old market) a b (inr x) (inr y) = x.5 ∙ ap result_of (one_file limit bytes x.0 y.0 x.1 y.1 x.2 y.2 x.4 y.4).2 ∙ sym y.5

module _ (limit : ℕ) (held bytes : List ℕ) where
  -- how the disk was opened, and what the result says of the source
  abbrev Opened : Result ⊤ KeepFault → Type 0
  Opened result = (opens : Opening) × IsOpening held opens × EndsOn limit bytes opens result

  all_opened : (begin : Start) (old : Pairs) (market : Market) (input : Start) (records : List Record) (ending : Ending) → OpensAs source_starts held begin old market input
      → Reads sources limit bytes (File input records ending) → Opened (result_of ending)
  all_opened begin old market input records ending (inl legal) reads = (Legal begin old market, legal.0, inr (input, records, ending, legal.1, reads, refl))
  all_opened begin old market input records ending (inr new) reads = (New, new.0, inr (inr (input, records, ending, reads, refl)))

  left_opened : (end : DiskState) → HasLeftAll limit held (Some bytes) end → Opened (Err NotFlow)
  left_opened end (inl legal) = (Legal legal.0 legal.1 legal.2, legal.3, inl (legal.4, refl))
  left_opened end (inr new) = (New, new.0, inl (new.1, refl))

  opened : (end : DiskState) (out later : Output) (result : Result ⊤ KeepFault) → (¬ IsFailure result) → ComesTo limit held (Some bytes) end out later result → Opened result
  opened end out later (Ok done) fine is = all_opened is.begin is.old is.market is.input (asked_of is.new) reading.End is.opens is.are.0
  opened end out later (Err (Torn place)) fine is = all_opened is.begin is.old is.market is.input (asked_of is.new) (reading.Torn place) is.opens is.are.0
  opened end out later (Err TooLong) fine is = all_opened is.begin is.old is.market is.input (asked_of is.new) reading.TooLong is.opens is.are.0
  opened end out later (Err NotFlow) fine is = left_opened end is.1
  opened end out later (Err BadCheckpoint) fine is = (New, is.1.0, inr (inl (is.1.1, refl)))
  opened end out later (Err NotDisk) fine is = (Foreign, is.1.0, refl)
  opened end out later (Err (Damaged place)) fine is = (opening.Damaged place, is.1.0, refl)
  opened end out later (Err (Rejected number)) fine is = (opening.Rejected number, is.1.0, refl)
  opened end out later (Err Read) fine is = absurd (fine (inl refl))
  opened end out later (Err Write) fine is = absurd (fine (inr (inl refl)))
  opened end out later (Err Disk) fine is = absurd (fine (inr (inr (inl refl))))
  opened end out later (Err Memory) fine is = absurd (fine (inr (inr (inr refl))))

  pub one_result : (end other : DiskState) (out later before after : Output) (a b : Result ⊤ KeepFault) → (¬ IsFailure a) → (¬ IsFailure b)
      → ComesTo limit held (Some bytes) end out later a → ComesTo limit held (Some bytes) other before after b → a ≡ b
  one_result end other out later before after a b fine well x y =
      let here = opened end out later a fine x in
      let there = opened other before after b well y in
      ends_one limit bytes there.0 a b (subst (λ (o : Opening). EndsOn limit bytes o a) (one_opening held here.0 there.0 here.1 there.1) here.2) there.2

  -- ---- one output, and one list of entries

  -- a disk is continued in one way by an input that begins so
  one_begin : (v w : Start) (p q : Pairs) (m n : Market) (input other : Start) → input ≡ other → OpensAs source_starts held v p m input → OpensAs source_starts held w q n other → (v ≡ w) × (p ≡ q) × (m ≡ n)
  one_begin v w p q m n input other same (inl a) (inl b) = legal_is v w p q m n (one_opening held (Legal v p m) (Legal w q n) a.0 b.0)
  one_begin v w p q m n input other same (inl a) (inr b) = absurd (a.0.0 b.0.0)
  one_begin v w p q m n input other same (inr a) (inl b) = absurd (b.0.0 a.0.0)
  one_begin v w p q m n input other same (inr a) (inr b) =
      let begun = sym a.3 ∙ same ∙ b.3 in
      (begun, a.1 ∙ sym b.1, a.2 ∙ ap market_of begun ∙ sym b.2)

  all_alike : (end other : DiskState) (out later before after : Output) (ending : Ending) → HasKeptAll limit held (Some bytes) end out later ending → HasKeptAll limit held (Some bytes) other before after ending
      → GainAlike out later before after × LeaveAlike held end other
  all_alike end other out later before after ending x y =
      let file = one_file limit bytes x.input y.input (asked_of x.new) (asked_of y.new) ending ending x.are.0 y.are.0 in
      let begun = one_begin x.begin y.begin x.old y.old x.market y.market x.input y.input file.0 x.opens y.opens in
      let new = one_entries y.market x.new y.new x.now y.now file.1 (rw (← begun.2) x.goes_on.steps) y.goes_on.steps in
      let texts = x.are.1 ∙ ap (map pair_encoding) new ∙ sym y.are.1 in
      let keeps : KeepsJust end y.begin (y.old ++ y.new) = rw (← begun.0, ← begun.1, ← new) x.at in
      ((joined y.texts, subst (λ t. Grows out.held later.held (joined t)) texts (whole_text out later x.texts x.gained), whole_text before after y.texts y.gained), inl (y.begin, y.old ++ y.new, y.now, y.goes_on.journal, keeps, y.at))

  left_alike : (end other : DiskState) → HasLeftAll limit held (Some bytes) end → HasLeftAll limit held (Some bytes) other → LeaveAlike held end other
  left_alike end other (inl a) (inl b) =
      let same = legal_is a.0 b.0 a.1 b.1 a.2 b.2 (one_opening held (Legal a.0 a.1 a.2) (Legal b.0 b.1 b.2) a.3 b.3) in
      inl (b.0, b.1, b.2, b.3.2, rw (← same.0, ← same.1) a.5, b.5)
  left_alike end other (inl a) (inr b) = absurd (a.3.0 b.0.0)
  left_alike end other (inr a) (inl b) = absurd (b.3.0 a.0.0)
  left_alike end other (inr a) (inr b) = inr (a.2, b.2)

  alike : (end other : DiskState) (out later before after : Output) (result : Result ⊤ KeepFault) → (¬ IsFailure result)
      → ComesTo limit held (Some bytes) end out later result → ComesTo limit held (Some bytes) other before after result → GainAlike out later before after × LeaveAlike held end other
  alike end other out later before after (Ok done) fine x y = all_alike end other out later before after reading.End x y
  alike end other out later before after (Err (Torn place)) fine x y = all_alike end other out later before after (reading.Torn place) x y
  alike end other out later before after (Err TooLong) fine x y = all_alike end other out later before after reading.TooLong x y
  alike end other out later before after (Err NotFlow) fine x y = (nothing_alike out later before after x.0 y.0, left_alike end other x.1 y.1)
  alike end other out later before after (Err BadCheckpoint) fine x y = (nothing_alike out later before after x.0 y.0, inr (x.1.2, y.1.2))
  alike end other out later before after (Err NotDisk) fine x y = (nothing_alike out later before after x.0 y.0, inr (x.1.1, y.1.1))
  alike end other out later before after (Err (Damaged place)) fine x y = (nothing_alike out later before after x.0 y.0, inr (x.1.1, y.1.1))
  alike end other out later before after (Err (Rejected number)) fine x y = (nothing_alike out later before after x.0 y.0, inr (x.1.1, y.1.1))
  alike end other out later before after (Err Read) fine x y = absurd (fine (inl refl))
  alike end other out later before after (Err Write) fine x y = absurd (fine (inr (inl refl)))
  alike end other out later before after (Err Disk) fine x y = absurd (fine (inr (inr (inl refl))))
  alike end other out later before after (Err Memory) fine x y = absurd (fine (inr (inr (inr refl))))

pub one_kept_output : (end other : DiskState) → OneKeptOutput end other
one_kept_output end other limit held bytes out later before after a b fine well x y =
    let same = one_result limit held bytes end other out later before after a b fine well x y in
    let both = alike limit held bytes end other out later before after b well (subst (λ r. ComesTo limit held (Some bytes) end out later r) same x) y in
    (same, both.0, both.1)
