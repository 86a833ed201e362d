-- How keeping a journal ended, as a status.
use Rattle.std.proofs.Common.{◌≡◌, inl, inr, ℕ, Option, Some, None, IfSome, Result, Ok, Err, refl, sym, ap, ◌∙◌}
use Rattle.std.specs.Prelude.{⊤}
use Rattle.flow_io.specs.Faults.{Blames}
use Rattle.journal_keeping.specs.declared.fault.KeepFault.{KeepFault}
use Rattle.journal_keeping.specs.declared.fault.KeepFault.TheVariants.{Read, Write, Disk, Memory, NotDisk, Damaged, Rejected, NotFlow, BadCheckpoint, Torn, TooLong}
use Rattle.exit_status.specs.declared.status.Status.{Status}
use Rattle.exit_status.specs.declared.status.Status.TheVariants as status
use Rattle.journal_keeping.specs.Ended as kept
use Rattle.kept_exchange.specs.Statuses.{kept_status}
use Rattle.kept_exchange.specs.Keeping.{IsRefusal}

pub if_some : {T : Type 0} (o : Option T) (P Q : T → Type 0) → ((x : T) → P x → Q x) → IfSome o P → IfSome o Q
if_some None P Q f p = tt
if_some (Some x) P Q f p = f x p

-- what holds of each value
pub each : {T : Type 0} (o : Option T) (P : T → Type 0) → ((x : T) → P x) → IfSome o P
each None P p = tt
each (Some x) P p = p x

-- how it ended
abbrev pub Kept : Type 0
Kept = Result ⊤ KeepFault

-- the blame of a fault, said of the status
pub blames_as : (P Q : Type 0) (before now : ℕ) → (P → Q) → (Q → P) → Blames P before now → Blames Q before now
blames_as P Q before now to back blames = record {
  later = blames.later;
  rose = λ q. blames.rose (back q);
  quiet = λ not. blames.quiet (λ p. not (to p));
}

-- the fault that a status says of such a call, but for the end of its source
abbrev fault_of : Status → Option KeepFault
fault_of status.ReadFault = Some Read
fault_of status.WriteFault = Some Write
fault_of status.DiskFault = Some Disk
fault_of status.NoMemory = Some Memory
fault_of status.NotDisk = Some NotDisk
fault_of (status.Damaged place) = Some (Damaged place)
fault_of (status.Rejected number) = Some (Rejected number)
fault_of status.NotFlow = Some NotFlow
fault_of status.BadCheckpoint = Some BadCheckpoint
fault_of (status.Torn place) = Some (Torn place)
fault_of (status.TooLong most) = Some TooLong
fault_of other = None

-- the fault of a result, if it is one
abbrev fault_in : Kept → Option KeepFault
fault_in (Ok done) = None
fault_in (Err fault) = Some fault

says_fault : (limit : ℕ) (result : Kept) → fault_of (kept_status limit result) ≡ fault_in result
says_fault limit (Ok done) = refl
says_fault limit (Err Read) = refl
says_fault limit (Err Write) = refl
says_fault limit (Err Disk) = refl
says_fault limit (Err Memory) = refl
says_fault limit (Err NotDisk) = refl
says_fault limit (Err (Damaged place)) = refl
says_fault limit (Err (Rejected number)) = refl
says_fault limit (Err NotFlow) = refl
says_fault limit (Err BadCheckpoint) = refl
says_fault limit (Err (Torn place)) = refl
says_fault limit (Err TooLong) = refl

by_fault : (a b : Kept) → fault_in a ≡ fault_in b → ◌≡◌ {A = Kept} a b
by_fault (Ok done) (Ok also) e = refl
by_fault (Ok done) (Err fault) e = absurd cc
by_fault (Err fault) (Ok done) e = absurd cc
by_fault (Err fault) (Err other) e = cc

-- a status is that of one result
pub one_result : (limit : ℕ) (a b : Kept) → kept_status limit a ≡ kept_status limit b → ◌≡◌ {A = Kept} a b
one_result limit a b e = by_fault a b (sym (says_fault limit a) ∙ ap fault_of e ∙ says_fault limit b)

-- a disk is refused by its result, and so by the status
pub refused_by : (limit : ℕ) (result : Kept) → IsRefusal (kept_status limit result) → kept.IsRefusal result
refused_by limit result (inl e) = inl (one_result limit result (Err NotDisk) e)
refused_by limit result (inr (inl e)) = inr (inl (e.0, one_result limit result (Err (Damaged e.0)) e.1))
refused_by limit result (inr (inr e)) = inr (inr (e.0, one_result limit result (Err (Rejected e.0)) e.1))
