-- How many bytes a crash may leave on a disk while a journal is kept on it.
use Rattle.std.specs.Prelude.{◌≡◌, ◌⊎◌, ℕ, ◌+◌, ◌*◌, ◌^◌, ◌≤◌, List, length, Option, Some}
use Rattle.flow_io.specs.Windows.{WindowState}
use Rattle.journal_records.specs.Pairs.{longest_pair}
use Rattle.disk_edge.specs.Disks.{DiskState, AtEachMoment}
use Rattle.journal_disk.specs.Lengths.{HasAtMost, LeavesAtMost}

-- The most bytes that an input may have.
abbrev pub most_input : ℕ
most_input = 2 ^ 40

-- The most bytes that an entry takes on a disk: the longest entry, its length and the commit byte.
abbrev pub longest_stored_entry : ℕ
longest_stored_entry = longest_pair + 5

-- a source has at most `count` bytes within the limit: `count` is at least the limit, or at least the source's known length
abbrev pub BringsAtMost : ℕ → Option (List ℕ) → ℕ → Type 0
BringsAtMost limit content count = (limit ≤ count) ⊎ ((bytes : List ℕ) × (content ≡ Some bytes) × (length bytes ≤ count))

-- At each moment a crash leaves at most so many bytes for each byte of the input more than it might have left at the start, or than the 9 of a
-- new disk.
abbrev pub GrowsAtMost : (each limit : ℕ) → Option (List ℕ) → DiskState → DiskState → Type 0
GrowsAtMost each limit content start end = (most count : ℕ) → 9 ≤ most → LeavesAtMost most start → BringsAtMost limit content count
    → AtEachMoment start end (HasAtMost (most + each * count))

-- at most `count` more bytes may be served from a window: `count` is at least those up to the limit, or those held and left in the source
abbrev pub HasYetAtMost : ℕ → WindowState → Option (List ℕ) → Type 0
HasYetAtMost count window rest = (window.limit ≤ window.place + count) ⊎ ((left : List ℕ) × (rest ≡ Some left) × (length window.held + length left ≤ count))
