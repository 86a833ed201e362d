-- A new disk is made one that begins with a first entry.
use Rattle.std.proofs.Common.{◌≡◌, ◌⊎◌, ⊎_elim, inl, inr, ℕ, zero, suc, false, ◌<◌, List, [], ◌∷◌, ◌++◌, Option, Some, None, IfSome, length, sym, ap, subst, arith}
use Rattle.std.specs.Bool.{◌==◌}
use Rattle.wire_records.specs.declared.version.Version.{Version}
use Rattle.market_snapshot.specs.Checkpoints.{checkpoint_bytes}
use Rattle.market_history.specs.Histories.{Start, Empty, Kept}
use Rattle.disk_edge.specs.Disks.{DiskState, AtEachMoment}
use Rattle.disk_edge.specs.Images.{LeavesOnly}
use Rattle.disk_edge.proofs.Moments.{weaker, then_more}
use Rattle.journal_disk.specs.Entries.{IsHead, framed, IsNewDisk, HasEntries, StandsFor, Keeps}
use Rattle.journal_keeping.specs.Starts.{version_of, head_of}
use Rattle.journal_keeping.specs.Beginning.{IsStored}

-- what isn't empty has bytes
pub not_empty : (n : ℕ) → false ≡ (n == 0) → 0 < n
not_empty zero is = absurd cc
not_empty (suc n) is = omega arith

module _ (version : Version) (stored : List ℕ) (place : ℕ) (start mid end : DiskState) (some : 0 < length stored) where
  kept_by : (later : ℕ) → Keeps (record { version = version; first = None }) [] place mid
      → ((v : Version) (bytes : List ℕ) → Keeps (record { version = v; first = None }) [] place mid → IsHead (record { version = v; first = Some bytes }) → stored ≡ framed bytes ++ 0 ∷ [] → Keeps (record { version = v; first = Some bytes }) [] later end)
      → (begin : Start) → version_of begin ≡ version → IsHead (head_of begin) → IsStored begin stored → Keeps (head_of begin) [] later end
  kept_by later keeps appends (Empty v) of head is = absurd (omega (arith, some, ap length is))
  kept_by later keeps appends (Kept m) of head is =
      appends m.version (checkpoint_bytes m) (subst (λ (v : Version). Keeps (record { version = v; first = None }) [] place mid) (sym of) keeps) head is

  pub made_keeps : (content : Option (List ℕ)) (later : ℕ) → IfSome content (λ _. Keeps (record { version = version; first = None }) [] place mid)
      → ((v : Version) (bytes : List ℕ) → Keeps (record { version = v; first = None }) [] place mid → IsHead (record { version = v; first = Some bytes }) → stored ≡ framed bytes ++ 0 ∷ [] → Keeps (record { version = v; first = Some bytes }) [] later end)
      → IfSome content (λ _. (begin : Start) → version_of begin ≡ version → IsHead (head_of begin) → IsStored begin stored → Keeps (head_of begin) [] later end)
  made_keeps None later keeps appends = tt
  made_keeps (Some held) later keeps appends = kept_by later keeps appends

  stands_by : Keeps (record { version = version; first = None }) [] place mid → AtEachMoment start mid IsNewDisk
      → ((v : Version) (bytes : List ℕ) → Keeps (record { version = v; first = None }) [] place mid → IsHead (record { version = v; first = Some bytes }) → stored ≡ framed bytes ++ 0 ∷ [] → AtEachMoment mid end (λ image. IsNewDisk image ⊎ HasEntries (record { version = v; first = Some bytes }) [] image))
      → (begin : Start) → version_of begin ≡ version → IsHead (head_of begin) → IsStored begin stored → AtEachMoment start end (λ image. IsNewDisk image ⊎ StandsFor (head_of begin) [] image)
  stands_by keeps new appends (Empty v) of head is = absurd (omega (arith, some, ap length is))
  stands_by keeps new appends (Kept m) of head is =
      then_more start mid end _ (weaker start mid _ _ (λ image is_new. inl is_new) new)
      (weaker mid end _ _ (λ image was. ⊎_elim (λ is_new. inl is_new) (λ has. inr (inr has)) was)
      (appends m.version (checkpoint_bytes m) (subst (λ (v : Version). Keeps (record { version = v; first = None }) [] place mid) (sym of) keeps) head is))

  pub made_moments : IfSome start.content (λ _. Keeps (record { version = version; first = None }) [] place mid)
      → ((bytes : List ℕ) → start.content ≡ Some bytes → LeavesOnly start.images bytes → AtEachMoment start mid IsNewDisk)
      → ((v : Version) (bytes : List ℕ) → Keeps (record { version = v; first = None }) [] place mid → IsHead (record { version = v; first = Some bytes }) → stored ≡ framed bytes ++ 0 ∷ [] → AtEachMoment mid end (λ image. IsNewDisk image ⊎ HasEntries (record { version = v; first = Some bytes }) [] image))
      → (bytes : List ℕ) (begin : Start) → start.content ≡ Some bytes → LeavesOnly start.images bytes → version_of begin ≡ version → IsHead (head_of begin) → IsStored begin stored → AtEachMoment start end (λ image. IsNewDisk image ⊎ StandsFor (head_of begin) [] image)
  made_moments keeps new appends bytes begin told only of head is =
      stands_by (subst (λ (o : Option (List ℕ)). IfSome o (λ _. Keeps (record { version = version; first = None }) [] place mid)) told keeps) (new bytes told only) appends begin of head is
