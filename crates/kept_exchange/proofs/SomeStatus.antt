-- The bytes of a disk and of a source lead to some status.
use Rattle.std.proofs.Common.{◌≡◌, ◌⊎◌, ⊎_elim, inl, inr, ℕ, ◌<◌, List, length, take, refl, sym, ap, ◌∙◌, arith}
use Rattle.std.proofs.lemmas.Bool.{cases_eq, cases_lt}
use Rattle.wire_records.specs.Records.{Record}
use Rattle.wire_records.specs.Grammars.{BeginsWith, BeginsWithNone}
use Rattle.wire_records.specs.Reading.{Reading, NotFlow, File, Reads}
use Rattle.wire_records.specs.Formats.{commands, command_magic_of}
use Rattle.wire_records.specs.Versions.{number_of}
use Rattle.wire_records.specs.declared.version.Version.{Version}
use Rattle.wire_records.proofs.ReadingLaws.{reads_some, reads_on_some}
use Rattle.wire_records.proofs.RecordCode.{commands_readable}
use Rattle.wire_records.proofs.Numbered.{same_number}
use Rattle.word_driver.specs.Laws.{IsNotDenied}
use Rattle.word_driver.proofs.Denying.{not_denied, follows, one_of}
use Rattle.market_history.specs.Histories.{Start, Empty}
use Rattle.journal_keeping.specs.Inputs.{BeginsUnsound}
use Rattle.journal_keeping.specs.Starts.{version_of, source_start, sources}
use Rattle.journal_keeping.specs.Openings.{Opening, Foreign, New, Damaged, Rejected, Legal, IsOpening}
use Rattle.journal_keeping.proofs.SomeOpening.{some_opening}
use Rattle.journal_keeping.proofs.Starts.{of_source}
use Rattle.exit_status.specs.declared.status.Status.{Status}
use Rattle.exit_status.specs.declared.status.Status.TheVariants as status
use Rattle.exit_status.specs.Statuses.{ending_status, reading_status}
use Rattle.kept_exchange.specs.Statuses.{IsSourceStatus, AsksStatus, ReadsKept}
use Rattle.kept_exchange.specs.Laws.{SomeStatus}

-- a command file is a source without a checkpoint
as_source : (version : Version) (limit : ℕ) (bytes : List ℕ) (reads : (body : List ℕ) × BeginsWith commands.magics (take limit bytes) version body) → BeginsWith sources.magics (take limit bytes) (Empty version) reads.0
as_source version limit bytes reads = (tt, reads.1.1)

-- what a source is read as with a disk of a version
kept_as : (version : Version) (limit : ℕ) (bytes : List ℕ) (reading : Reading Version Record) → Reads commands limit bytes reading → (kept : Reading Start Record) × ReadsKept version limit bytes kept
kept_as version limit bytes NotFlow none = (NotFlow, λ body begins. none version body begins.0 begins.1)
kept_as version limit bytes (File of records ending) reads = ⊎_elim
    (λ same. (
      File (Empty of) records ending,
      (
        ap (λ (v : Version). Empty v) (same_number of version same),
        (reads.0, (tt, reads.1.1), of_source (length (command_magic_of of)) (limit < length bytes) reads.0 records ending reads.2),
      ),
    ))
    (λ other. (NotFlow, λ body begins. other (same_numbers (commands_readable.magics.one of version reads.0 body reads.1.0 begins.0 (sym reads.1.1 ∙ begins.1)).0)))
    (cases_eq (number_of of) (number_of version))
  where
    same_numbers : of ≡ version → number_of of ≡ number_of version
    same_numbers e = rw e refl

-- the bytes begin as a source
abbrev HasStart : List ℕ → Type 0
HasStart bytes = (input : Start) × (body : List ℕ) × BeginsWith sources.magics bytes input body

-- what a source of a new disk is read as, and its status
abbrev SourceStatus : ℕ → List ℕ → Type 0
SourceStatus limit bytes = (ends : Status) × (reading : Reading Start Record) × Reads sources limit bytes reading × IsSourceStatus limit bytes reading ends

more_or_not : (limit size : ℕ) → (limit < size) ⊎ (¬ (limit < size))
more_or_not limit size = ⊎_elim (λ more. inl more) (λ few. inr (λ more. omega (arith, more, few))) (cases_lt limit size)

begun_status : (limit : ℕ) (bytes : List ℕ) → HasStart (take limit bytes) → SourceStatus limit bytes
begun_status limit bytes (input, body, begins) =
    let on = reads_on_some commands commands_readable (length (source_start input)) (limit < length bytes) (more_or_not limit (length bytes)) body in
    (ending_status limit on.1, File input on.0 on.1, (body, begins, of_source (length (source_start input)) (limit < length bytes) body on.0 on.1 on.2), refl)

unbegun_status : (limit : ℕ) (bytes : List ℕ) → BeginsWithNone sources.magics (take limit bytes) → BeginsUnsound (take limit bytes) ⊎ (¬ BeginsUnsound (take limit bytes)) → SourceStatus limit bytes
unbegun_status limit bytes none (inl unsound) = (status.BadCheckpoint, NotFlow, none, inl (unsound, refl))
unbegun_status limit bytes none (inr other) = (status.NotFlow, NotFlow, none, inr (other, refl))

source_status : (limit : ℕ) (bytes : List ℕ) → HasStart (take limit bytes) ⊎ (¬ HasStart (take limit bytes)) → IsNotDenied (SourceStatus limit bytes)
source_status limit bytes (inl start) = not_denied (begun_status limit bytes start)
source_status limit bytes (inr none) =
    follows (λ unsound. not_denied (unbegun_status limit bytes (λ input body lawful is. none (input, body, (lawful, is))) unsound)) (one_of (BeginsUnsound (take limit bytes)))

status_of : (limit : ℕ) (held bytes : List ℕ) → (opening : Opening) × IsOpening held opening → IsNotDenied ((ends : Status) × AsksStatus limit held bytes ends)
status_of limit held bytes (Foreign, is) = not_denied (status.NotDisk, (Foreign, is, refl))
status_of limit held bytes (Damaged place, is) = not_denied (status.Damaged place, (Damaged place, is, refl))
status_of limit held bytes (Rejected number, is) = not_denied (status.Rejected number, (Rejected number, is, refl))
status_of limit held bytes (New, is) =
    follows (λ (some : SourceStatus limit bytes). not_denied (some.0, (New, is, (some.1, some.2, some.3))))
    (follows (source_status limit bytes) (one_of (HasStart (take limit bytes))))
status_of limit held bytes (Legal begin pairs market, is) =
    let some = reads_some commands commands_readable limit bytes in
    let kept = kept_as (version_of begin) limit bytes some.0 some.1 in
    not_denied (reading_status limit kept.0, (Legal begin pairs market, is, (kept.0, kept.1, refl)))

pub some_status : SomeStatus
some_status limit held bytes = follows (status_of limit held bytes) (some_opening held)
