-- The parts of the disk in memory are consistent.
use Rattle.std.specs.Prelude.{◌≡◌, ℕ, ◌+◌, ◌≤◌, min, Vec, vec_len, vec_capacity}
use Rattle.std.specs.declared.alloc.Global.{Global}
use Rattle.memory_io.specs.declared.turns.Turns.{Turns}
use Rattle.memory_io.specs.Disk.{content_after, bytes_written}
use Rattle.memory_io.specs.Logs.{LogState}

pub record IsConsistent (first content : Vec ℕ Global) (log : LogState) (calls : Turns) : Type 0 where
  pub there : content.items ≡ content_after log.made first.items
  pub most : log.most ≡ calls.most
  pub count : log.count ≡ min calls.made calls.most
  pub each : Rattle.std.specs.Prelude.length log.made ≡ log.count
  pub used : log.used ≡ bytes_written log.made
  pub within : log.used ≤ log.room
  pub length : vec_len content ≤ vec_len first + log.used
  pub room : vec_len first + log.room ≤ vec_capacity content
