-- What holds of the calls that host the lines of many senders over a file, whatever the code.
use Rattle.std.specs.Prelude.{◌≡◌, ◌⊎◌, ℕ, List, ◌++◌, Option, Some, Result, Err, ⊤}
use Rattle.flow_io.specs.Streams.{Grows}
use Rattle.flow_io.specs.Changes.{Change}
use Rattle.wire_records.specs.Records.{Record}
use Rattle.wire_records.specs.Commands.{Pair}
use Rattle.flow_orders.specs.Outcomes.{Outcome}
use Rattle.market_history.specs.Histories.{Start}
use Rattle.disk_edge.specs.Disks.{DiskState}
use Rattle.journal_disk.specs.Looking.{OnlyLooks}
use Rattle.journal_keeping.specs.Outputs.{Output, Gains}
use Rattle.journal_keeping.specs.Dialogs.{KeepsJust}
use Rattle.desk_opening.specs.Openings.{IsNoBook}
use Rattle.desk_keeping.specs.Hosting.{ComesTo, IsOfFile}
use Rattle.desk_keeping.specs.declared.fault.HostFault.{HostFault}
use Rattle.desk_keeping.specs.declared.fault.HostFault.TheVariants.{Read, Write, Disk, Memory}
use Rattle.exit_status.specs.declared.status.Status.{Status}
use Rattle.exit_status.specs.declared.status.Status.TheVariants as status
use Rattle.kept_exchange.specs.Hosts.{HostsLines}

-- two outputs were handed the same texts, each by one call, and gained them all, as far as they are known
abbrev pub GainAlike : Output → Output → Output → Output → Type 0
GainAlike out later before after = (texts : List (List ℕ)) × Gains ⊥ out later texts × Gains ⊥ before after texts

-- the second output gained a prefix of the bytes that the first one gained, as far as they are known
abbrev pub GainsFirst : Output → Output → Output → Output → Type 0
GainsFirst out later before after =
    (text : List ℕ) × (begun : List ℕ) × (rest : List ℕ) × Grows out.held later.held text × Grows before.held after.held begun × (text ≡ begun ++ rest)

-- two files were only looked at, or they keep just the same entries, after one beginning
abbrev pub KeepAlike : (start end other last : DiskState) → Type 0
KeepAlike start end other last =
    (OnlyLooks start end × OnlyLooks other last) ⊎ ((begin : Start) × (pairs : List (Pair Record Outcome)) × KeepsJust end begin pairs × KeepsJust last begin pairs)

-- ---- by the result

-- a failure: a read or a write failed, a call of the file did, or memory ran out
abbrev pub IsFailure : Result ⊤ HostFault → Type 0
IsFailure result = (result ≡ Err Read) ⊎ ((result ≡ Err Write) ⊎ ((result ≡ Err Disk) ⊎ (result ≡ Err Memory)))

-- What a call that hosted lines resulted in. Its file held these bytes at the start, and its input these; `left` is what was left of the input.
pub record HasHosted (limit : ℕ) (held bytes : List ℕ) (left : Option (List ℕ)) (start end : DiskState) (out later : Output) (result : Result ⊤ HostFault) : Type 0 where
  pub told : start.content ≡ Some held
  pub comes : ComesTo limit held (Some bytes) left start end out later result
  -- a file that is refused by its bytes alone is so before the input, and before anything is written
  pub refuses : IsNoBook held → IsOfFile result × (later ≡ out)

-- Two calls that host lines, on the same bytes of a file and of an input and with the same limit, have the same result, write the same texts and keep the same
-- entries, if neither fails.
abbrev pub OneHostedOutput : (start end other last : DiskState) → Type 0
OneHostedOutput start end other last = (limit : ℕ) (held bytes : List ℕ) (left rest : Option (List ℕ)) (out later before after : Output) (a b : Result ⊤ HostFault) → (¬ IsFailure a) → (¬ IsFailure b)
    → HasHosted limit held bytes left start end out later a → HasHosted limit held bytes rest other last before after b → (a ≡ b) × GainAlike out later before after × KeepAlike start end other last

-- What a call wrote that hosts lines, whatever its result is, is a prefix of what a call writes that doesn't fail, on the same bytes of a file and of an input
-- and with the same limit.
abbrev pub HostedBegunIsAPrefix : (start end other last : DiskState) → Type 0
HostedBegunIsAPrefix start end other last = (limit : ℕ) (held bytes : List ℕ) (left rest : Option (List ℕ)) (out later before after : Output) (a b : Result ⊤ HostFault) → (¬ IsFailure a)
    → HasHosted limit held bytes left start end out later a → HasHosted limit held bytes rest other last before after b → GainsFirst out later before after

-- ---- by the status

-- the status of a failure
abbrev pub HasFailed : Status → Type 0
HasFailed ends = (ends ≡ status.ReadFault) ⊎ ((ends ≡ status.WriteFault) ⊎ ((ends ≡ status.DiskFault) ⊎ (ends ≡ status.NoMemory)))

-- Two calls of `host` with this limit began on these bytes of FILE and of the input. They are any calls that do what the program's does.
pub record AreHosts (limit : ℕ) (held bytes : List ℕ) (a b : Status) (start end other last : DiskState) (source input : Change) (out later before after : Output) (notes lines : Change) : Type 0 where
  pub told : start.content ≡ Some held
  pub also : other.content ≡ Some held
  pub has : source.before ≡ Some bytes
  pub too : input.before ≡ Some bytes
  pub one : HostsLines limit a start end source out later notes
  pub second : HostsLines limit b other last input before after lines

-- They have one status, write the same texts and keep the same entries, if neither fails.
abbrev pub OneHostStatus : (start end other last : DiskState) → Type 0
OneHostStatus start end other last = (limit : ℕ) (held bytes : List ℕ) (a b : Status) (source input : Change) (out later before after : Output) (notes lines : Change)
    → AreHosts limit held bytes a b start end other last source input out later before after notes lines → (¬ HasFailed a) → (¬ HasFailed b)
    → (a ≡ b) × GainAlike out later before after × KeepAlike start end other last

-- What the second wrote, whatever its status is, is a prefix of what the first wrote, if that didn't fail.
abbrev pub HostBegunIsAPrefix : (start end other last : DiskState) → Type 0
HostBegunIsAPrefix start end other last = (limit : ℕ) (held bytes : List ℕ) (a b : Status) (source input : Change) (out later before after : Output) (notes lines : Change)
    → AreHosts limit held bytes a b start end other last source input out later before after notes lines → (¬ HasFailed a) → GainsFirst out later before after
