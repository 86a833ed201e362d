-- What `flow run` makes of the bytes of its source.
use Rattle.std.specs.Prelude.{◌≡◌, ◌⊎◌, ◌+◌, ◌≤◌, ◌++◌, ◌∷◌, ℕ, List, [], length, map, Option, IfSome}
use Rattle.std.specs.List.{flat_map}
use Rattle.flow_io.specs.Changes.{Change}
use Rattle.flow_io.specs.Streams.{Grows, HandsOver}
use Rattle.wire_records.specs.Records.{Record, encoding}
use Rattle.wire_records.specs.Commands.{Pair}
use Rattle.wire_records.specs.Reading.{Reading, NotFlow, File, Reads, StartsWith}
use Rattle.wire_records.specs.declared.version.Version.{Version}
use Rattle.wire_records.specs.Formats.{commands}
use Rattle.flow_orders.specs.Outcomes.{Outcome}
use Rattle.journal_records.specs.Pairs.{pair_encoding}
use Rattle.journal_records.specs.Formats.{journal_magic_of}
use Rattle.market_rules.specs.Market.{Market}
use Rattle.market_rules.specs.Allocating.{RecordMayAllocate}
use Rattle.exchange_session.specs.Journals.{Journals}
use Rattle.exit_status.specs.declared.status.Status.{Status}
use Rattle.exit_status.specs.declared.status.Status.TheVariants.{WriteFault, NoMemory}
use Rattle.exit_status.specs.Statuses.{reading_status}

-- what is written for a reading: the journal of its records, in the version of the file
abbrev pub WritesOf : Reading Version Record → List ℕ → Type 0
WritesOf NotFlow text = text ≡ []
WritesOf (File version records ending) text = (market : Market) × Journals version records market text

-- The bytes are read, the status says how that ends, and the text is written.
pub record RunsTo (limit : ℕ) (bytes : List ℕ) (status : Status) (text : List ℕ) : Type 0 where
  pub reading : Reading Version Record
  pub reads : Reads commands limit bytes reading
  pub ends : status ≡ reading_status limit reading
  pub writes : WritesOf reading text

-- The text is the journal of the records before one that may run out of memory.
pub record RunsShort (limit : ℕ) (bytes : List ℕ) (text : List ℕ) : Type 0 where
  pub version : Version
  pub records : List Record
  pub next : Record
  pub market : Market
  pub starts : StartsWith commands limit bytes version (records ++ next ∷ [])
  pub writes : Journals version records market text
  pub allocates : RecordMayAllocate market next

-- `Holds` is true of the bytes that the source had and of how many were taken, if what it had and what is left are known
abbrev pub WhereTaken : Option (List ℕ) → Option (List ℕ) → (List ℕ → ℕ → Type 0) → Type 0
WhereTaken before after Holds = IfSome before (λ bytes. IfSome after (λ left. (n : ℕ) × (n + length left ≡ length bytes) × Holds bytes n))

-- The entries of the first records are completely in what was appended to the output, and at most 1,030 bytes were taken past these records.
pub record IsNearPairs (limit : ℕ) (before after : Option (List ℕ)) (bytes : List ℕ) (taken : ℕ) : Type 0 where
  pub version : Version
  pub records : List Record
  pub market : Market
  pub text : List ℕ
  pub more : List ℕ
  pub starts : StartsWith commands limit bytes version records
  pub writes : Journals version records market text
  pub stands : Grows before after (text ++ more)
  pub near : taken ≤ 8 + length (flat_map encoding records) + 1030

-- How far a run has read that was cut short, by a failed write or because memory ran out: at most 1,030 bytes past the last record whose
-- entry was written, or past the first eight bytes.
abbrev pub KeepsPace : ℕ → Status → Change → Change → Type 0
KeepsPace limit status source out = (status ≡ WriteFault) ⊎ (status ≡ NoMemory)
    → WhereTaken source.before source.after (λ bytes taken. (taken ≤ 8 + 1030) ⊎ IsNearPairs limit out.before out.after bytes taken)

-- no piece, or the magic of a journal as one piece, and after it each entry as one
abbrev pub AreMagicAndPairs : List (List ℕ) → Type 0
AreMagicAndPairs pieces = (pieces ≡ []) ⊎ ((version : Version) × (pairs : List (Pair Record Outcome)) × (pieces ≡ journal_magic_of version ∷ map pair_encoding pairs))

-- What a run hands to the output, by whatever status: the magic by one call, each entry by one call, and nothing besides. If no write
-- failed, these whole pieces were appended; of the last one a write may have failed.
abbrev pub WritesInPieces : {O : Type 0} → (O → Option (List (List ℕ))) → (O → Option (List ℕ)) → O → O → Status → Type 0
WritesInPieces calls held before after status = (pieces : List (List ℕ)) × AreMagicAndPairs pieces × HandsOver calls held before after (status ≡ WriteFault) pieces
