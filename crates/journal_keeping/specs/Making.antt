-- When a new disk is made one of a journal.
use Rattle.std.specs.Prelude.{◌⊎◌, ℕ, List, Option, IfSome}
use Rattle.disk_edge.specs.Disks.{DiskState}
use Rattle.journal_disk.specs.Entries.{IsNewDisk}
use Rattle.journal_disk.specs.Looking.{OnlyLooks}
use Rattle.journal_keeping.specs.Inputs.{InputStarts, HasShownStart}

-- a disk that held these bytes and was new was only looked at, unless what was taken of the input shows how it begins
abbrev pub IsMadeAfterStart : InputStarts → ℕ → List ℕ → DiskState → DiskState → Option (List ℕ) → Option (List ℕ) → Type 0
IsMadeAfterStart starts limit held start end content left = IsNewDisk held → OnlyLooks start end ⊎ IfSome content (λ bytes. HasShownStart starts limit bytes left)
