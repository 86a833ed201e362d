-- How many bytes a call leaves on a disk, whatever its input is. `grow` is how much the bytes of an input may add, at least two for each.
use Rattle.std.proofs.Common.{inl, inr, ℕ, ◌+◌, ◌-◌, ◌*◌, ◌≤◌, List, ◌++◌, Option, length, length-append, arith}
use Rattle.flow_io.specs.Windows.{WindowState}
use Rattle.market_rules.specs.Market.{Market}
use Rattle.market_history.specs.Histories.{Start}
use Rattle.disk_edge.specs.Disks.{DiskState, IsDisk, AtEachMoment}
use Rattle.disk_edge.proofs.Moments.{weaker, then_more, at_the_end}
use Rattle.journal_disk.specs.Lengths.{HasAtMost, LeavesAtMost, ReachesAtMost}
use Rattle.journal_keeping.specs.Starts.{head_of}
use Rattle.journal_keeping.specs.Taking.{InputFormat, IsAfterStart}
use Rattle.journal_keeping.specs.Beginning.{IsBegun}
use Rattle.journal_keeping.specs.Lengths.{BringsAtMost, GrowsAtMost, HasYetAtMost}
use Rattle.journal_keeping.proofs.Lengths.{left_less, last_commit}
use Rattle.journal_keeping.proofs.Starting.{brought}

module _ (format : InputFormat) (limit : ℕ) (input : Start) (w : WindowState) (content after : Option (List ℕ)) (following : IsAfterStart format limit input w content after) where
  -- the window follows the beginning of the input: so many bytes fewer may be served
  yet_after : (count : ℕ) → BringsAtMost limit content count → HasYetAtMost (count - length (format.encode input)) w after
  yet_after count (inl up) = inl (omega (arith, up, following.limited, following.place, following.within))
  yet_after count (inr has) =
      let less = left_less (format.encode input ++ w.held) content after has.0 following.takes has.1 in
      inr (less.0, less.1, omega (arith, has.2, less.2, length-append (format.encode input) w.held))

  module _ (grow : ℕ → ℕ) (wide : (size count : ℕ) → size ≤ count → grow (count - size) + 2 * size ≤ grow count) where
    pub grows_served : (begin : Start) (start mid end : DiskState) → IsDisk mid → ((most : ℕ) → 9 ≤ most → LeavesAtMost most start → AtEachMoment start mid (HasAtMost (most + 2 * length (format.encode input))))
        → (held : List ℕ) (market : Market) (entries place : ℕ) → IsBegun format.starts held begin input market entries place mid → ((count : ℕ) → HasYetAtMost count w after → ReachesAtMost (place + (grow count + 1)) mid end)
        → (most count : ℕ) → 9 ≤ most → LeavesAtMost most start → BringsAtMost limit content count → AtEachMoment start end (HasAtMost (most + grow count))
    grows_served begin start mid end is_disk within held market entries place begun served most count nine short brings =
        let size = length (format.encode input) in
        let run = within most nine short in
        let there = at_the_end start mid (HasAtMost (most + 2 * size)) is_disk run in
        let last = last_commit (head_of begin) _ place (most + 2 * size) mid is_disk begun.3 there in
        let more = wide size count (brought format limit input w content after following count brings) in
        then_more start mid end (HasAtMost (most + grow count)) (weaker start mid (HasAtMost (most + 2 * size)) (HasAtMost (most + grow count)) (λ image le. omega (arith, le, more)) run)
        (served (count - size) (yet_after count brings) (most + grow count) (omega (arith, last, more)) (λ image left. omega (arith, there image left, more)))

-- nothing was served: a disk grew by no more than two bytes for each that was brought
pub grows_unserved : (grow : ℕ → ℕ) → ((count : ℕ) → 2 * count ≤ grow count) → (limit : ℕ) (content : Option (List ℕ)) (start end : DiskState) → GrowsAtMost 2 limit content start end
    → (most count : ℕ) → 9 ≤ most → LeavesAtMost most start → BringsAtMost limit content count → AtEachMoment start end (HasAtMost (most + grow count))
grows_unserved grow wide limit content start end grows most count nine short brings =
    weaker start end (HasAtMost (most + 2 * count)) (HasAtMost (most + grow count)) (λ image le. omega (arith, le, wide count)) (grows most count nine short brings)
