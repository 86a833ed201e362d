-- What `serve` results in, by how the disk was opened and what the input has: one result, one output, and one list of entries.
use Rattle.std.proofs.Common.{◌≡◌, ◌⊎◌, ◌≤◌, ◌<◌, inl, inr, ℕ, List, ◌++◌, Option, Some, Result, Ok, Err, length, take, refl, sym, subst, ◌∙◌, arith}
use Rattle.std.specs.Prelude.{⊤}
use Rattle.flow_io.specs.Streams.{Grows}
use Rattle.market_rules.specs.Market.{Market}
use Rattle.market_snapshot.specs.Checkpoints.{checkpoint_bytes, HasCheckpointMagic}
use Rattle.market_history.specs.Histories.{Start, Empty, Kept}
use Rattle.disk_edge.specs.Disks.{DiskState}
use Rattle.journal_keeping.specs.Inputs.{BeginsUnsound}
use Rattle.journal_keeping.specs.Starts.{version_of}
use Rattle.journal_keeping.specs.Openings.{Opening, Foreign, New, Legal, IsOpening, OpensAs}
use Rattle.journal_keeping.specs.Openings as opening
use Rattle.journal_keeping.specs.Outputs.{Output}
use Rattle.journal_keeping.specs.Dialogs.{KeepsJust}
use Rattle.journal_keeping.specs.declared.fault.KeepFault.{KeepFault}
use Rattle.journal_keeping.specs.declared.fault.KeepFault.TheVariants.{Read, Write, Disk, Memory, NotDisk, Damaged, Rejected, NotFlow, BadCheckpoint, Torn, TooLong}
use Rattle.journal_keeping.proofs.OneOpening.{one_opening}
use Rattle.journal_keeping.proofs.Gaining.{joined, whole_text}
use Rattle.line_keeping.specs.Ended.{HasAnswered, ComesTo}
use Rattle.line_keeping.specs.Inputs.{IsBefore, line_starts, HasLinesWithin}
use Rattle.line_keeping.specs.Laws.{LeadsTo}
use Rattle.line_keeping.proofs.OneOutput.{one_output}
use Rattle.kept_laws.specs.Laws.{IsFailure, GainAlike, LeaveAlike, OneServedOutput}
use Rattle.kept_laws.proofs.Promised.{Pairs}
use Rattle.kept_laws.proofs.Alike.{legal_is, nothing_alike}

-- ---- one result

-- lines don't come after an unsound checkpoint
pub not_unsound_before : (bytes : List ℕ) (before : Start) (text : List ℕ) → IsBefore bytes before text → BeginsUnsound bytes → ⊥
not_unsound_before bytes (Empty version) text is unsound = is.0 unsound.0
not_unsound_before bytes (Kept market) text is unsound = unsound.1 market (checkpoint_bytes market) text is.0 is.1

-- nothing is before the lines for a disk that isn't new
pub no_magic_before : (bytes : List ℕ) (before : Start) (text : List ℕ) (begin : Start) → before ≡ Empty (version_of begin) → IsBefore bytes before text → HasCheckpointMagic bytes → ⊥
no_magic_before bytes before text begin same is magic = (subst (λ (s : Start). IsBefore bytes s text) same is).0 magic

-- all lines were answered
abbrev IsEnd : ℕ → List ℕ → Result ⊤ KeepFault → Type 0
IsEnd limit bytes result = ((length bytes ≤ limit) × (result ≡ Ok tt)) ⊎ ((limit < length bytes) × (result ≡ Err TooLong))

end_one : (limit : ℕ) (bytes : List ℕ) (a b : Result ⊤ KeepFault) → IsEnd limit bytes a → IsEnd limit bytes b → a ≡ b
end_one limit bytes a b (inl x) (inl y) = x.1 ∙ sym y.1
end_one limit bytes a b (inl x) (inr y) = absurd (omega (arith, x.0, y.0))
end_one limit bytes a b (inr x) (inl y) = absurd (omega (arith, x.0, y.0))
end_one limit bytes a b (inr x) (inr y) = x.1 ∙ sym y.1

-- What a result that is no failure says of the input, by how the disk was opened.
abbrev EndsOn : ℕ → List ℕ → Opening → Result ⊤ KeepFault → Type 0
EndsOn limit bytes Foreign result = result ≡ Err NotDisk
EndsOn limit bytes (opening.Damaged place) result = result ≡ Err (Damaged place)
EndsOn limit bytes (opening.Rejected number) result = result ≡ Err (Rejected number)
EndsOn limit bytes New result =
    (BeginsUnsound (take limit bytes) × (result ≡ Err BadCheckpoint))
    ⊎ ((before : Start) × (text : List ℕ) × IsBefore (take limit bytes) before text × IsEnd limit bytes result)
EndsOn limit bytes (Legal begin old market) result =
    (HasCheckpointMagic (take limit bytes) × (result ≡ Err NotFlow))
    ⊎ ((before : Start) × (text : List ℕ) × (before ≡ Empty (version_of begin)) × IsBefore (take limit bytes) before text × IsEnd limit bytes result)

ends_one : (limit : ℕ) (bytes : List ℕ) (opens : Opening) (a b : Result ⊤ KeepFault) → EndsOn limit bytes opens a → EndsOn limit bytes opens b → a ≡ b
ends_one limit bytes Foreign a b x y = x ∙ sym y
ends_one limit bytes (opening.Damaged place) a b x y = x ∙ sym y
ends_one limit bytes (opening.Rejected number) a b x y = x ∙ sym y
ends_one limit bytes New a b (inl x) (inl y) = x.1 ∙ sym y.1
ends_one limit bytes New a b (inl x) (inr y) = absurd (not_unsound_before (take limit bytes) y.0 y.1 y.2 x.0)
ends_one limit bytes New a b (inr x) (inl y) = absurd (not_unsound_before (take limit bytes) x.0 x.1 x.2 y.0)
ends_one limit bytes New a b (inr x) (inr y) = end_one limit bytes a b x.3 y.3
ends_one limit bytes (Legal begin old market) a b (inl x) (inl y) = x.1 ∙ sym y.1
ends_one limit bytes (Legal begin old market) a b (inl x) (inr y) = absurd (no_magic_before (take limit bytes) y.0 y.1 begin y.2 y.3 x.0)
ends_one limit bytes (Legal begin old market) a b (inr x) (inl y) = absurd (no_magic_before (take limit bytes) x.0 x.1 begin x.2 x.3 y.0)
ends_one limit bytes (Legal begin old market) a b (inr x) (inr y) = end_one limit bytes a b x.4 y.4

module _ (limit : ℕ) (held bytes : List ℕ) where
  -- the lines that were answered, with how far the input goes
  abbrev pub Answered : Type 0 → DiskState → Output → Output → Type 0
  Answered Far end out later = HasAnswered held (Some bytes) end out later (λ bytes before lines. HasLinesWithin limit bytes before lines × Far)

  -- how the disk was opened, and what the result says of the input
  abbrev Opened : Result ⊤ KeepFault → Type 0
  Opened result = (opens : Opening) × IsOpening held opens × EndsOn limit bytes opens result

  all_opened : (begin : Start) (old : Pairs) (market : Market) (before : Start) (lines : List (List ℕ)) (result : Result ⊤ KeepFault) → OpensAs line_starts held begin old market before
      → HasLinesWithin limit bytes before lines → IsEnd limit bytes result → Opened result
  all_opened begin old market before lines result (inl legal) are ends = (Legal begin old market, legal.0, inr (before, are.0, legal.1, are.1, ends))
  all_opened begin old market before lines result (inr new) are ends = (New, new.0, inr (before, are.0, are.1, ends))

  opened : (left : Option (List ℕ)) (end : DiskState) (out later : Output) (result : Result ⊤ KeepFault) → (¬ IsFailure result) → ComesTo limit held (Some bytes) left end out later result → Opened result
  opened left end out later (Ok done) fine is = all_opened is.begin is.old is.market is.input is.are.0 (Ok tt) is.opens is.are.1.0 (inl (is.are.1.1, refl))
  opened left end out later (Err TooLong) fine is = all_opened is.begin is.old is.market is.input is.are.0 (Err TooLong) is.opens is.are.1.0 (inr (is.are.1.1, refl))
  opened left end out later (Err NotFlow) fine is = (Legal is.1 is.2 is.3, is.4, inl (is.5, refl))
  opened left end out later (Err BadCheckpoint) fine is = (New, is.1.0, inl (is.1.1, refl))
  opened left end out later (Err NotDisk) fine is = (Foreign, is.1.0, refl)
  opened left end out later (Err (Damaged place)) fine is = (opening.Damaged place, is.1.0, refl)
  opened left end out later (Err (Rejected number)) fine is = (opening.Rejected number, is.1.0, refl)
  opened left end out later (Err (Torn place)) fine is = absurd is
  opened left end out later (Err Read) fine is = absurd (fine (inl refl))
  opened left end out later (Err Write) fine is = absurd (fine (inr (inl refl)))
  opened left end out later (Err Disk) fine is = absurd (fine (inr (inr (inl refl))))
  opened left end out later (Err Memory) fine is = absurd (fine (inr (inr (inr refl))))

  one_result : (left rest : Option (List ℕ)) (end other : DiskState) (out later before after : Output) (a b : Result ⊤ KeepFault) → (¬ IsFailure a) → (¬ IsFailure b)
      → ComesTo limit held (Some bytes) left end out later a → ComesTo limit held (Some bytes) rest other before after b → a ≡ b
  one_result left rest end other out later before after a b fine well x y =
      let here = opened left end out later a fine x in
      let there = opened rest other before after b well y in
      ends_one limit bytes there.0 a b (subst (λ (o : Opening). EndsOn limit bytes o a) (one_opening held here.0 there.0 here.1 there.1) here.2) there.2

  -- ---- one output, and one list of entries

  -- what all lines lead to
  leads : (Far : Type 0) (end : DiskState) (out later : Output) (x : Answered Far end out later) → LeadsTo limit held bytes x.begin (x.old ++ x.new) x.texts x.now
  leads Far end out later x = record {
    old = x.old;
    market = x.market;
    before = x.input;
    opens = x.opens;
    lines = x.are.0;
    are = x.are.1.0;
    added = x.new;
    answered = x.are.2;
    all = refl;
  }

  all_alike : (Far : Type 0) (end other : DiskState) (out later before after : Output) → Answered Far end out later → Answered Far other before after → GainAlike out later before after × LeaveAlike held end other
  all_alike Far end other out later before after x y =
      let one = one_output limit held bytes x.begin y.begin (x.old ++ x.new) (y.old ++ y.new) x.texts y.texts x.now y.now (leads Far end out later x) (leads Far other before after y) in
      let keeps : KeepsJust end y.begin (y.old ++ y.new) = subst (λ (p : Pairs). KeepsJust end y.begin p) one.1 (subst (λ (b : Start). KeepsJust end b (x.old ++ x.new)) one.0 x.at) in
      ((joined y.texts, subst (λ t. Grows out.held later.held (joined t)) one.2 (whole_text out later x.texts x.gained), whole_text before after y.texts y.gained), inl (y.begin, y.old ++ y.new, y.now, y.goes_on.journal, keeps, y.at))

  alike : (left rest : Option (List ℕ)) (end other : DiskState) (out later before after : Output) (result : Result ⊤ KeepFault) → (¬ IsFailure result)
      → ComesTo limit held (Some bytes) left end out later result → ComesTo limit held (Some bytes) rest other before after result → GainAlike out later before after × LeaveAlike held end other
  alike left rest end other out later before after (Ok done) fine x y = all_alike (length bytes ≤ limit) end other out later before after x y
  alike left rest end other out later before after (Err TooLong) fine x y = all_alike (limit < length bytes) end other out later before after x y
  alike left rest end other out later before after (Err NotFlow) fine x y =
      let same = legal_is x.1 y.1 x.2 y.2 x.3 y.3 (one_opening held (Legal x.1 x.2 x.3) (Legal y.1 y.2 y.3) x.4 y.4) in
      let keeps : KeepsJust end y.1 y.2 = subst (λ (p : Pairs). KeepsJust end y.1 p) same.1 (subst (λ (b : Start). KeepsJust end b x.2) same.0 x.6) in
      (nothing_alike out later before after x.0 y.0, inl (y.1, y.2, y.3, y.4.2, keeps, y.6))
  alike left rest end other out later before after (Err BadCheckpoint) fine x y = (nothing_alike out later before after x.0 y.0, inr (x.1.2, y.1.2))
  alike left rest end other out later before after (Err NotDisk) fine x y = (nothing_alike out later before after x.0 y.0, inr (x.1.1, y.1.1))
  alike left rest end other out later before after (Err (Damaged place)) fine x y = (nothing_alike out later before after x.0 y.0, inr (x.1.1, y.1.1))
  alike left rest end other out later before after (Err (Rejected number)) fine x y = (nothing_alike out later before after x.0 y.0, inr (x.1.1, y.1.1))
  alike left rest end other out later before after (Err (Torn place)) fine x y = absurd x
  alike left rest end other out later before after (Err Read) fine x y = absurd (fine (inl refl))
  alike left rest end other out later before after (Err Write) fine x y = absurd (fine (inr (inl refl)))
  alike left rest end other out later before after (Err Disk) fine x y = absurd (fine (inr (inr (inl refl))))
  alike left rest end other out later before after (Err Memory) fine x y = absurd (fine (inr (inr (inr refl))))

pub one_served_output : (end other : DiskState) → OneServedOutput end other
one_served_output end other limit held bytes left rest out later before after a b fine well x y =
    let same = one_result limit held bytes left rest end other out later before after a b fine well x y in
    let both = alike limit held bytes left rest end other out later before after b well (subst (λ r. ComesTo limit held (Some bytes) left end out later r) same x) y in
    (same, both.0, both.1)
