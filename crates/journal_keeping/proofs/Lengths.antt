-- How many bytes keeping records leaves on a disk.
use Rattle.std.proofs.Common.{◌≡◌, inl, inr, ℕ, ◌+◌, ◌-◌, ◌*◌, ◌≤◌, List, [], ◌∷◌, ◌++◌, Option, Some, None, IfSome, length, length-append, length-drop, drop, refl, sym, ap, subst, arith}
use Rattle.flow_io.specs.Streams.{Takes}
use Rattle.flow_io.specs.Windows.{WindowState, Fills}
use Rattle.wire_records.specs.Formats.{command_magic_of}
use Rattle.wire_records.proofs.RecordCode.{eight}
use Rattle.market_snapshot.specs.Checkpoints.{checkpoint_bytes}
use Rattle.market_history.specs.Histories.{Start, Empty, Kept}
use Rattle.disk_edge.specs.Disks.{DiskState, IsDisk}
use Rattle.journal_disk.specs.Pairs.{RecordPair}
use Rattle.journal_disk.specs.Entries.{Head, framed, entries, Keeps}
use Rattle.journal_disk.proofs.Entries.{length-framed}
use Rattle.journal_disk.specs.Lengths.{LeavesAtMost, ReachesAtMost}
use Rattle.journal_disk.proofs.Lengths.{reach_wider, reach_more, reach_none}
use Rattle.journal_keeping.specs.Starts.{source_start}
use Rattle.journal_keeping.specs.Beginning.{IsStored}
use Rattle.journal_keeping.specs.Lengths.{longest_stored_entry, HasYetAtMost}

-- ---- the bytes that may be served yet

-- the held bytes are among those that may be served
yet_held : (count : ℕ) (window : WindowState) (rest : Option (List ℕ)) → window.place + length window.held ≤ window.limit → HasYetAtMost count window rest → length window.held ≤ count
yet_held count window rest inside (inl up) = omega (arith, inside, up)
yet_held count window rest inside (inr held) = omega (arith, held.2)

-- a record was taken
yet_taken : (n count : ℕ) (window : WindowState) (rest : Option (List ℕ)) → n ≤ length window.held → HasYetAtMost count window rest
    → HasYetAtMost (count - n) (record window { held = drop n window.held; place = window.place + n }) rest
yet_taken n count window rest few (inl up) = inl (omega (arith, up))
yet_taken n count window rest few (inr held) = inr (held.0, held.1, omega (arith, held.2, few, length-drop n window.held))

-- bytes that are taken are no longer left
pub left_less : (joined : List ℕ) (before after : Option (List ℕ)) (left : List ℕ) → Takes before after joined → before ≡ Some left → (more : List ℕ) × (after ≡ Some more) × (length left ≡ length joined + length more)
left_less joined None None left takes is = absurd cc
left_less joined None (Some more) left takes is = absurd takes
left_less joined (Some bytes) None left takes is = absurd takes
left_less joined (Some bytes) (Some more) left takes is =
    let same : bytes ≡ left = cc in
    (more, refl, omega (arith, ap length takes, ap length same, length-append joined more))

-- more was read into the window
yet_read : (count : ℕ) (old new : WindowState) (before after : Option (List ℕ)) → Fills old new before after → HasYetAtMost count old before → HasYetAtMost count new after
yet_read count old new before after fills (inl up) = inl (omega (arith, up, ap (λ (w : WindowState). w.limit) fills.holds, ap (λ (w : WindowState). w.place) fills.holds))
yet_read count old new before after fills (inr held) =
    let less = left_less (fills.joined ++ fills.past) before after held.0 fills.taken held.1 in
    inr (less.0, less.1, omega (arith, held.2, less.2, length-append fills.joined fills.past, length-append old.held fills.joined, ap (λ (w : WindowState). length w.held) fills.holds))

-- ---- while records are served

-- All bytes that may still be served have places on the disk up to the same bound, and the disk reaches no further.
abbrev pub StaysWithin : WindowState → Option (List ℕ) → WindowState → Option (List ℕ) → ℕ → ℕ → DiskState → DiskState → Type 0
StaysWithin first before window rest from place start now =
    (count : ℕ) → HasYetAtMost count first before → (left : ℕ) × HasYetAtMost left window rest × (place + longest_stored_entry * left ≤ from + longest_stored_entry * count) × ReachesAtMost (from + longest_stored_entry * count + 1) start now

pub within_none : (window : WindowState) (rest : Option (List ℕ)) (from : ℕ) (start : DiskState) → IsDisk start → StaysWithin window rest window rest from from start start
within_none window rest from start is_disk = λ count yet. (count, yet, omega arith, reach_none (from + longest_stored_entry * count + 1) start is_disk)

module _ (first window : WindowState) (before rest : Option (List ℕ)) (from place : ℕ) (start now next : DiskState) (stays : StaysWithin first before window rest from place start now)
    (inside : window.place + length window.held ≤ window.limit) (is_disk : IsDisk now) (reach : (left : ℕ) → length window.held ≤ left → ReachesAtMost (place + longest_stored_entry * left + 1) now next) where
  -- after a pass of the loop, whatever it did
  pub within_end : (count : ℕ) → HasYetAtMost count first before → ReachesAtMost (from + longest_stored_entry * count + 1) start next
  within_end count yet =
      let now_at = stays count yet in
      reach_more (from + longest_stored_entry * count + 1) start now next is_disk now_at.3
      (reach_wider (place + longest_stored_entry * now_at.0 + 1) (from + longest_stored_entry * count + 1) now next (omega (arith, now_at.2)) (reach now_at.0 (yet_held now_at.0 window rest inside now_at.1)))

  pub within_taken : (n later : ℕ) (ahead : WindowState) → n ≤ length window.held → ahead ≡ record window { held = drop n window.held; place = window.place + n }
      → ((left most : ℕ) → length window.held ≤ left → place + longest_stored_entry * left ≤ most → later + longest_stored_entry * (left - n) ≤ most) → StaysWithin first before ahead rest from later start next
  within_taken n later ahead few is moves = λ count yet.
      let now_at = stays count yet in (
        now_at.0 - n,
        subst (λ (w : WindowState). HasYetAtMost (now_at.0 - n) w rest) (sym is) (yet_taken n now_at.0 window rest few now_at.1),
        moves now_at.0 (from + longest_stored_entry * count) (yet_held now_at.0 window rest inside now_at.1) now_at.2,
        within_end count yet,
      )

  pub within_read : (later : ℕ) (ahead : WindowState) (after : Option (List ℕ)) → Fills window ahead rest after
      → ((left most : ℕ) → length window.held ≤ left → place + longest_stored_entry * left ≤ most → later + longest_stored_entry * left ≤ most) → StaysWithin first before ahead after from later start next
  within_read later ahead after fills moves = λ count yet.
      let now_at = stays count yet in (
        now_at.0,
        yet_read now_at.0 window ahead rest after fills now_at.1,
        moves now_at.0 (from + longest_stored_entry * count) (yet_held now_at.0 window rest inside now_at.1) now_at.2,
        within_end count yet,
      )

-- ---- the whole call

-- the first entry isn't longer than the beginning of the source
pub stored_few : (input : Start) (stored : List ℕ) → IsStored input stored → length stored ≤ length (source_start input)
stored_few (Empty version) stored is = omega (arith, ap length is)
stored_few (Kept market) stored is =
    omega (arith, ap length is, length-append (framed (checkpoint_bytes market)) (0 ∷ []), length-framed (checkpoint_bytes market), length-append (checkpoint_bytes market) (command_magic_of market.version), eight market.version)

-- the commit byte that isn't set is among the bytes that a crash leaves
pub last_commit : (head : Head) (pairs : List RecordPair) (place most : ℕ) (disk : DiskState) → IsDisk disk → Keeps head pairs place disk → LeavesAtMost most disk → place + 1 ≤ most
last_commit head pairs place most disk is_disk keeps short =
    let bytes = entries head pairs ++ keeps.0 ∷ [] in
    let left : disk.images bytes = subst (λ (o : Option (List ℕ)). IfSome o disk.images) keeps.2.content is_disk.content in
    omega (arith, short bytes left, length-append (entries head pairs) (keeps.0 ∷ []), keeps.2.begins)
