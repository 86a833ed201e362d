-- The state of a real file in contracts: whether it was opened, and its count of faults.
use Rattle.std.specs.Prelude.{ℕ, Bool, None}
use Rattle.disk_edge.specs.Disks.{DiskState, IsDisk}

-- whether the file was opened, and how many calls have failed
pub record FileState : Type 0 where
  pub is_open : Bool
  pub faults : ℕ

-- whether there is no file at a path, and the state of the one that was opened there
pub record PathState : Type 0 where
  pub is_missing : Bool
  pub file : FileState

-- a real file as a disk: its content isn't known, and a crash may leave anything
abbrev pub file_state : FileState → DiskState
file_state file = record {
  content = None;
  faults = file.faults;
  clock = 0;
  images = λ image. Unit {0};
  since = λ time image. Unit {0};
}

-- a real file is a disk, of which nothing is known
pub file_is_disk : (file : FileState) → IsDisk (file_state file)
file_is_disk file = record {
  content = tt;
  now = λ image left. tt;
  counts = λ time image le is. tt;
}
