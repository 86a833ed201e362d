-- A disk that was found to be one of a version, and whose entries were read.
use Rattle.std.proofs.Common.{◌≡◌, ℕ, List, [], drop, Option, Some, None, IfSome, IsSome, refl, sym, subst}
use Rattle.std.proofs.lemmas.Bool.{false≢true}
use Rattle.wire_records.specs.declared.version.Version.{Version}
use Rattle.disk_edge.specs.Disks.{DiskState}
use Rattle.journal_disk.specs.Pairs.{RecordPair}
use Rattle.journal_disk.specs.Entries.{Head, Holds, EndsAt, Keeps}
use Rattle.journal_disk.specs.Recovering.{IsFound}

-- its reading ended at a commit byte that isn't set
pub ends_known : (content now : Option (List ℕ)) (first place : ℕ) (start mid : DiskState) → first ≡ 8 → now ≡ content → IfSome content (λ bytes. (version : Version) × IsFound (Some version) bytes start)
    → ((head : Head) (pairs : List RecordPair) (rest : List ℕ) → Holds head pairs first rest start → (found : List RecordPair) × EndsAt head found place mid) → IfSome now (λ _. (head : Head) × (pairs : List RecordPair) × EndsAt head pairs place mid)
ends_known content None first place start mid is told found ends = tt
ends_known None (Some bytes) first place start mid is told found ends = absurd cc
ends_known (Some held) (Some bytes) first place start mid is told found ends =
    let head : Head = record { version = found.0; first = None } in
    let read = ends head [] (drop 8 held) (subst (λ (n : ℕ). Holds head [] n (drop 8 held) start) (sym is) found.1.2) in
    (head, read.0, read.1)

-- and entries can be added
pub keeps_known : (content now : Option (List ℕ)) (place later : ℕ) (mid next : DiskState) → (IsSome now → IsSome content) → IfSome content (λ _. (head : Head) × (pairs : List RecordPair) × EndsAt head pairs place mid)
    → ((head : Head) (pairs : List RecordPair) → EndsAt head pairs place mid → Keeps head pairs later next) → IfSome now (λ _. (head : Head) × (pairs : List RecordPair) × Keeps head pairs later next)
keeps_known content None place later mid next told ends keeps = tt
keeps_known None (Some bytes) place later mid next told ends keeps = absurd (false≢true (told refl))
keeps_known (Some held) (Some bytes) place later mid next told ends keeps = (ends.0, ends.1, keeps ends.0 ends.1 ends.2)
