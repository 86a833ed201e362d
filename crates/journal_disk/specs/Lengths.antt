-- How long a crash may leave a disk.
use Rattle.std.specs.Prelude.{ℕ, ◌≤◌, List, length}
use Rattle.disk_edge.specs.Disks.{DiskState, AtEachMoment}
use Rattle.disk_edge.specs.Images.{Images}

-- the image has at most so many bytes
abbrev pub HasAtMost : ℕ → Images
HasAtMost most image = length image ≤ most

-- a crash now leaves at most so many bytes
abbrev pub LeavesAtMost : ℕ → DiskState → Type 0
LeavesAtMost most disk = (image : List ℕ) → disk.images image → HasAtMost most image

-- At each moment a crash leaves no more bytes than it might have left at the start, or no more than there are up to this place.
abbrev pub ReachesAtMost : ℕ → DiskState → DiskState → Type 0
ReachesAtMost place old new = (most : ℕ) → place ≤ most → LeavesAtMost most old → AtEachMoment old new (HasAtMost most)
