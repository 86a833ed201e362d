-- A call that hosts the lines of many senders does what is promised of it.
use Rattle.std.proofs.Common.{◌≡◌, ◌⊎◌, inl, inr, ◌+◌, ◌-◌, ◌≤◌, ℕ, List, length, IfSome, Option, None, Some, Result, Ok, Err, OnOk, OnErr, IsErr, refl, sym, ap, ◌∙◌}
use Rattle.std.specs.Prelude.{⊤}
use Rattle.flow_io.specs.Faults.{Blames}
use Rattle.flow_io.specs.Streams.{TakesAtMost, Grows, GrowsByPrefix}
use Rattle.flow_io.specs.Changes.{Change}
use Rattle.flow_io.specs.declared.sink.WriteFailed.{WriteFailed}
use Rattle.wire_records.specs.Records.{Record}
use Rattle.wire_records.specs.Commands.{Pair}
use Rattle.flow_orders.specs.Outcomes.{Outcome}
use Rattle.market_rules.specs.Market.{Market}
use Rattle.market_history.specs.Histories.{Start}
use Rattle.disk_edge.specs.Disks.{DiskState, IsDisk}
use Rattle.journal_disk.specs.Entries.{most_unkept}
use Rattle.journal_keeping.specs.Keeping.{HoldsLegal}
use Rattle.journal_keeping.specs.Ended.{MayBeginAgain}
use Rattle.journal_keeping.specs.Outputs.{Output}
use Rattle.journal_keeping.proofs.Gaining.{gains_wider}
use Rattle.journal_keeping.proofs.Again.{after_run}
use Rattle.desk_opening.specs.Openings.{IsNoBook}
use Rattle.desk_keeping.specs.Hosting.{ComesTo, IsMadeAfterBeginning, IsOfFile, HostsIn}
use Rattle.desk_keeping.specs.declared.fault.HostFault.{HostFault}
use Rattle.desk_keeping.specs.declared.fault.HostFault.TheVariants.{Read, Write, Disk, Memory, NotDisk, Damaged, Rejected, NotFlow, BadCheckpoint, TooLong, Differs}
use Rattle.exit_status.specs.declared.status.Status.{Status}
use Rattle.exit_status.specs.declared.status.Status.TheVariants as status
use Rattle.exit_status.specs.Statuses.{line_of}
use Rattle.exit_status.proofs.Noted.{written, cut_line}
use Rattle.kept_exchange.specs.Hosts.{HostsLines, host_status}
use Rattle.kept_exchange.proofs.AsStatus.{blames_as}

-- how it ended
abbrev pub Hosted : Type 0
Hosted = Result ⊤ HostFault

-- the fault that a status says of such a call
abbrev fault_of : Status → Option HostFault
fault_of status.ReadFault = Some Read
fault_of status.WriteFault = Some Write
fault_of status.DiskFault = Some Disk
fault_of status.NoMemory = Some Memory
fault_of status.NotDisk = Some NotDisk
fault_of (status.Damaged place) = Some (Damaged place)
fault_of (status.Rejected number) = Some (Rejected number)
fault_of status.NotFlow = Some NotFlow
fault_of status.BadCheckpoint = Some BadCheckpoint
fault_of (status.TooLong most) = Some TooLong
fault_of (status.Differs number) = Some (Differs number)
fault_of other = None

abbrev fault_in : Hosted → Option HostFault
fault_in (Ok done) = None
fault_in (Err fault) = Some fault

says_fault : (limit : ℕ) (result : Hosted) → fault_of (host_status limit result) ≡ fault_in result
says_fault limit (Ok done) = refl
says_fault limit (Err Read) = refl
says_fault limit (Err Write) = refl
says_fault limit (Err Disk) = refl
says_fault limit (Err Memory) = refl
says_fault limit (Err NotDisk) = refl
says_fault limit (Err (Damaged place)) = refl
says_fault limit (Err (Rejected number)) = refl
says_fault limit (Err NotFlow) = refl
says_fault limit (Err BadCheckpoint) = refl
says_fault limit (Err TooLong) = refl
says_fault limit (Err (Differs number)) = refl

by_fault : (a b : Hosted) → fault_in a ≡ fault_in b → ◌≡◌ {A = Hosted} a b
by_fault (Ok done) (Ok also) e = refl
by_fault (Ok done) (Err fault) e = absurd cc
by_fault (Err fault) (Ok done) e = absurd cc
by_fault (Err fault) (Err other) e = cc

-- a status is that of one result
one_result : (limit : ℕ) (a b : Hosted) → host_status limit a ≡ host_status limit b → ◌≡◌ {A = Hosted} a b
one_result limit a b e = by_fault a b (sym (says_fault limit a) ∙ ap fault_of e ∙ says_fault limit b)

-- a write may be cut short in more cases
hosts_wider : (limit : ℕ) (content : Option (List ℕ)) (Cut Wider : Type 0) (was : Start) (start end : DiskState) (old : List (Pair Record Outcome)) (market : Market) (out later : Output) → (Cut → Wider)
    → HostsIn limit content Cut was start end old market out later → HostsIn limit content Wider was start end old market out later
hosts_wider limit content Cut Wider was start end old market out later wider h = record {
  begin = h.begin;
  from = h.from;
  continues = h.continues;
  new = h.new;
  acknowledged = h.acknowledged;
  runs = h.runs;
  lines = h.lines;
  are = h.are;
  pairs = h.pairs;
  texts = h.texts;
  asked = h.asked;
  whole = h.whole;
  parts = h.parts;
  count = h.count;
  within = h.within;
  durable = h.durable;
  lag = lag_wider h.lag;
  told = h.told;
  answered = h.answered;
  gained = gains_wider Cut Wider out later h.told wider h.gained;
}
  where
    lag_wider : Cut ⊎ (h.acknowledged ≤ h.count - length old) → Wider ⊎ (h.acknowledged ≤ h.count - length old)
    lag_wider (inl cut) = inl (wider cut)
    lag_wider (inr few) = inr few

-- a later call may begin on what is left
pub hosts_again : (limit : ℕ) (content : Option (List ℕ)) (Cut : Type 0) (was : Start) (start end : DiskState) (old : List (Pair Record Outcome)) (market : Market) (out later : Output) → HoldsLegal start was old market → IsDisk end
    → HostsIn limit content Cut was start end old market out later → MayBeginAgain start end
hosts_again limit content Cut was start end old market out later holds is_disk h = after_run most_unkept was h.begin start end old h.new market h.from h.acknowledged holds is_disk h.runs

module _ (limit : ℕ) (result : Hosted) (start end : DiskState) (source : Change) (out later : Output) where
  pub hosts : (notes : Change) (noting : Result (Unit {0}) WriteFailed)
      → ((was : Start) (old : List (Pair Record Outcome)) (market : Market) → HoldsLegal start was old market → HostsIn limit source.before (◌≡◌ {A = Hosted} result (Err Write)) was start end old market out later)
      → IfSome start.content (λ held. ComesTo limit held source.before source.after start end out later result)
      → IfSome start.content (λ held. IsNoBook held → IsOfFile result × (source.after ≡ source.before) × (later ≡ out))
      → IfSome start.content (λ held. IsMadeAfterBeginning limit held start end source.before source.after)
      → TakesAtMost source.before source.after (limit + 1)
      → Blames (◌≡◌ {A = Hosted} result (Err Disk)) start.faults end.faults
      → Blames (◌≡◌ {A = Hosted} result (Err Read)) source.faults source.faults_after
      → Blames (◌≡◌ {A = Hosted} result (Err Write)) out.faults later.faults
      → OnOk noting (Grows notes.before notes.after (line_of (host_status limit result)))
      → OnErr noting (GrowsByPrefix notes.before notes.after (line_of (host_status limit result)))
      → Blames (IsErr noting) notes.faults notes.faults_after
      → HostsLines limit (host_status limit result) start end source out later notes
  hosts notes noting keeps comes refuses made taken disks reads writes line prefix cause = record {
    keeps = λ was old market holds. hosts_wider limit source.before (◌≡◌ {A = Hosted} result (Err Write)) (host_status limit result ≡ status.WriteFault) was start end old market out later (λ e. ap (λ (r : Hosted). host_status limit r) e) (keeps was old market holds);
    result = result;
    ends_so = refl;
    comes = comes;
    refuses = refuses;
    made = made;
    taken = taken;
    disks = blames_as _ (host_status limit result ≡ status.DiskFault) start.faults end.faults (λ e. ap (λ (r : Hosted). host_status limit r) e) (λ e. one_result limit result (Err Disk) e) disks;
    reads = blames_as _ (host_status limit result ≡ status.ReadFault) source.faults source.faults_after (λ e. ap (λ (r : Hosted). host_status limit r) e) (λ e. one_result limit result (Err Read) e) reads;
    writes = blames_as _ (host_status limit result ≡ status.WriteFault) out.faults later.faults (λ e. ap (λ (r : Hosted). host_status limit r) e) (λ e. one_result limit result (Err Write) e) writes;
    noted = written noting notes.before notes.after (line_of (host_status limit result)) notes.faults notes.faults_after line cause;
    cut = cut_line noting notes.before notes.after (line_of (host_status limit result)) line prefix;
  }
