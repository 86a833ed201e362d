-- What holds of journals that are kept, and of the calls that keep them, whatever the code.
use Rattle.std.specs.Prelude.{◌≡◌, ◌⊎◌, ◌+◌, ◌<◌, ◌≤◌, ◌^◌, ℕ, List, ◌++◌, length, All, Option, Some, Result, Err, ⊤}
use Rattle.flow_io.specs.Streams.{Grows}
use Rattle.wire_records.specs.Records.{Record, AreBytes, IsRecord, most_body}
use Rattle.wire_records.specs.Commands.{Pair}
use Rattle.wire_records.specs.Versions.{IsReadAs}
use Rattle.flow_orders.specs.Outcomes.{Outcome}
use Rattle.market_rules.specs.Market.{Market, IsConsistent}
use Rattle.market_rules.specs.Deposits.{HoldsDeposits}
use Rattle.market_rules.specs.Promises.{KeepsPromises}
use Rattle.market_history.specs.Histories.{Start, market_of, CanStart}
use Rattle.disk_edge.specs.Disks.{DiskState}
use Rattle.journal_keeping.specs.Keeping.{IsKeptJournal, HoldsLegal}
use Rattle.journal_keeping.specs.Dialogs.{Dialog, ServesIn, KeepsJust, asked_of, record_dialog}
use Rattle.journal_keeping.specs.Outputs.{Output}
use Rattle.journal_keeping.specs.Ended as kept
use Rattle.journal_keeping.specs.declared.fault.KeepFault.{KeepFault}
use Rattle.journal_keeping.specs.declared.fault.KeepFault.TheVariants.{Read, Write, Disk, Memory}
use Rattle.line_keeping.specs.Ended as lines
use Rattle.line_keeping.specs.Keeping.{line_dialog}

-- ---- the promises of the exchange

-- The market of a kept journal is consistent and holds what the entries deposited, and the entries keep the promises of the exchange, all of it from the
-- market on in which the journal begins.
abbrev pub KeptJournalsKeepPromises : Type 0
KeptJournalsKeepPromises = (begin : Start) (pairs : List (Pair Record Outcome)) (market : Market) → IsKeptJournal begin pairs market
    → IsConsistent market × HoldsDeposits IsReadAs (market_of begin) pairs market × KeepsPromises IsReadAs (market_of begin) pairs

-- From each beginning on, the records of a command file are answered by the entries of a kept journal, while the numbers of as many orders fit into 64 bits.
abbrev pub SomeKeptJournal : Type 0
SomeKeptJournal = (begin : Start) (records : List Record) → CanStart begin → All (IsRecord most_body) records → All (λ r. AreBytes r.body) records → (market_of begin).next_order + length records < 2 ^ 64
    → (pairs : List (Pair Record Outcome)) × (market : Market) × IsKeptJournal begin pairs market × (asked_of pairs ≡ records)

-- ---- one end, and one output

-- a failure: a read or a write failed, a call of the disk did, or memory ran out
abbrev pub IsFailure : Result ⊤ KeepFault → Type 0
IsFailure result = (result ≡ Err Read) ⊎ ((result ≡ Err Write) ⊎ ((result ≡ Err Disk) ⊎ (result ≡ Err Memory)))

-- two outputs gained the same bytes, as far as they are known
abbrev pub GainAlike : Output → Output → Output → Output → Type 0
GainAlike out later before after = (text : List ℕ) × Grows out.held later.held text × Grows before.held after.held text

-- the second output gained a prefix of the bytes that the first one gained, as far as they are known
abbrev pub GainsFirst : Output → Output → Output → Output → Type 0
GainsFirst out later before after =
    (text : List ℕ) × (begun : List ℕ) × (rest : List ℕ) × Grows out.held later.held text × Grows before.held after.held begun × (text ≡ begun ++ rest)

-- two disks keep the entries of one kept journal, and a crash leaves just these; or they hold these bytes
abbrev pub LeaveAlike : List ℕ → DiskState → DiskState → Type 0
LeaveAlike held end other =
    ((begin : Start) × (pairs : List (Pair Record Outcome)) × (market : Market) × IsKeptJournal begin pairs market × KeepsJust end begin pairs × KeepsJust other begin pairs)
    ⊎ ((end.content ≡ Some held) × (other.content ≡ Some held))

-- Two calls of `keep`, on the same bytes of a disk and of a source, end alike if neither fails: they have the same result, write the same bytes, and
-- leave the same entries.
abbrev pub OneKeptOutput : DiskState → DiskState → Type 0
OneKeptOutput end other = (limit : ℕ) (held bytes : List ℕ) (out later before after : Output) (a b : Result ⊤ KeepFault) → (¬ IsFailure a) → (¬ IsFailure b)
    → kept.ComesTo limit held (Some bytes) end out later a → kept.ComesTo limit held (Some bytes) other before after b → (a ≡ b) × GainAlike out later before after × LeaveAlike held end other

-- Two calls of `serve`, on the same bytes of a disk and of an input, end alike if neither fails.
abbrev pub OneServedOutput : DiskState → DiskState → Type 0
OneServedOutput end other = (limit : ℕ) (held bytes : List ℕ) (left rest : Option (List ℕ)) (out later before after : Output) (a b : Result ⊤ KeepFault) → (¬ IsFailure a) → (¬ IsFailure b)
    → lines.ComesTo limit held (Some bytes) left end out later a → lines.ComesTo limit held (Some bytes) rest other before after b → (a ≡ b) × GainAlike out later before after × LeaveAlike held end other

-- ---- what was written before a stop

-- What the clause `keeps` says of a call with this result: it began on a disk of these bytes, on which a run may begin, and served the first units of an
-- input of these bytes, from each beginning that the disk may have.
pub record HasBegun (dialog : Dialog) (limit : ℕ) (held bytes : List ℕ) (result : Result ⊤ KeepFault) (start end : DiskState) (out later : Output) : Type 0 where
  pub begin : Start
  pub old : List (Pair Record Outcome)
  pub market : Market
  pub told : start.content ≡ Some held
  pub holds : HoldsLegal start begin old market
  pub serves : (of : Start) (pairs : List (Pair Record Outcome)) (from : Market) → HoldsLegal start of pairs from
      → ServesIn dialog limit (Some bytes) (result ≡ Err Write) of start end pairs from out later

-- What a call of `keep` wrote, whatever its result is, is a prefix of what a call writes that doesn't fail, on the same bytes of a disk, of at most 2^60, and
-- of a source.
abbrev pub KeptBegunIsAPrefix : DiskState → DiskState → DiskState → Type 0
KeptBegunIsAPrefix start end other = (limit : ℕ) (held bytes : List ℕ) (out later before after : Output) (a b : Result ⊤ KeepFault) → length held ≤ 2 ^ 60 → (¬ IsFailure a)
    → kept.ComesTo limit held (Some bytes) other out later a → HasBegun record_dialog limit held bytes b start end before after → GainsFirst out later before after

-- so it is of `serve`
abbrev pub ServedBegunIsAPrefix : DiskState → DiskState → DiskState → Type 0
ServedBegunIsAPrefix start end other = (limit : ℕ) (held bytes : List ℕ) (left : Option (List ℕ)) (out later before after : Output) (a b : Result ⊤ KeepFault) → length held ≤ 2 ^ 60 → (¬ IsFailure a)
    → lines.ComesTo limit held (Some bytes) left other out later a → HasBegun line_dialog limit held bytes b start end before after → GainsFirst out later before after
