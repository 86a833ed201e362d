-- The disk in memory: the calls that it keeps a record of, and what a crash may leave by them.
use Rattle.std.specs.Prelude.{◌≡◌, ◌⊎◌, ℕ, ◌+◌, ◌-◌, ◌≤◌, ◌<◌, List, [], ◌∷◌, ◌++◌, Bool, true, false, if◌then◌else◌, nat_lt, Some, length, take, drop, replicate}
use Rattle.memory_io.specs.Fakes.{NextIsListed, one_more}
use Rattle.disk_edge.specs.Disks.{DiskState}
use Rattle.disk_edge.specs.Images.{Images, written, TornWrite, TornCut, After}
use Rattle.memory_io.specs.declared.call_log.Call.{Call}
use Rattle.memory_io.specs.declared.call_log.Call.TheVariants.{Look, Write, Cut, Sync}

-- A call that was made: one that changes nothing, a write, a cut, or a sync that succeeded. A write and a cut say whether they succeeded.
pub data Made : Type 0 where
  looked : Made
  wrote : ℕ → List ℕ → Bool → Made
  cut : ℕ → Bool → Made
  synced : Made

-- what a read gives after a call; a failed call leaves it
abbrev pub content_of : Made → List ℕ → List ℕ
content_of looked held = held
content_of (wrote place bytes true) held = written place bytes held
content_of (wrote place bytes false) held = held
content_of (cut to true) held = take to held
content_of (cut to false) held = held
content_of synced held = held

-- what a crash may leave during a call or after it
abbrev pub images_of : Made → List ℕ → Images → Images
images_of looked held images = images
images_of (wrote place bytes done) held images = After (TornWrite place (length bytes)) images
images_of (cut to done) held images = After (TornCut to) images
images_of synced held images = λ image. image ≡ held

-- what a read gives after some calls
abbrev pub content_after : List Made → List ℕ → List ℕ
content_after [] held = held
content_after (call ∷ calls) held = content_after calls (content_of call held)

-- what a crash may leave after some calls
abbrev pub images_after : List Made → List ℕ → Images → Images
images_after [] held images = images
images_after (call ∷ calls) held images = images_after calls (content_of call held) (images_of call held images)

-- What it began with, the calls that it keeps a record of, how many bytes of writes and how many calls it has room for, which calls fail,
-- how many there were, and how many of them failed.
pub record MemoryState : Type 0 where
  pub first : List ℕ
  pub made : List Made
  pub room : ℕ
  pub most : ℕ
  pub failing : List ℕ
  pub calls : ℕ
  pub faults : ℕ

-- what a crash may leave after so many calls
abbrev pub images_at : MemoryState → ℕ → Images
images_at disk count = images_after (take count disk.made) disk.first (λ image. image ≡ disk.first)

-- a crash at some moment, when at least so many calls were made, may leave this image
abbrev pub since : MemoryState → ℕ → Images
since disk time image = (count : ℕ) × (time ≤ count) × (count ≤ length disk.made) × images_at disk count image

-- the state of a disk that this one has
abbrev pub disk_of : MemoryState → DiskState
disk_of disk = record {
  content = Some (content_after disk.made disk.first);
  faults = disk.faults;
  clock = length disk.made;
  images = images_after disk.made disk.first (λ image. image ≡ disk.first);
  since = since disk;
}

-- how many bytes the writes of some calls have
abbrev pub bytes_written : List Made → ℕ
bytes_written [] = 0
bytes_written (looked ∷ calls) = bytes_written calls
bytes_written (wrote place bytes done ∷ calls) = length bytes + bytes_written calls
bytes_written (cut to done ∷ calls) = bytes_written calls
bytes_written (synced ∷ calls) = bytes_written calls

-- the next call fails for its number, which is listed or above the most
abbrev pub NextFails : MemoryState → Type 0
NextFails disk = NextIsListed disk.failing disk.calls ⊎ (disk.most ≤ disk.calls)

-- the disk after a call that is recorded so; only the first `most` calls are recorded
abbrev pub after_call : MemoryState → Made → Bool → MemoryState
after_call disk call failed = record disk {
  made = if nat_lt disk.calls disk.most then disk.made ++ call ∷ [] else disk.made;
  calls = one_more disk.calls;
  faults = if failed then one_more disk.faults else disk.faults;
}

-- the calls of a log, whose data has the bytes of all writes, one write after the other
abbrev pub seen : List Call → List ℕ → List Made
seen [] bytes = []
seen (Look ∷ calls) bytes = looked ∷ seen calls bytes
seen (Write place count done ∷ calls) bytes = wrote place (take count bytes) done ∷ seen calls (drop count bytes)
seen (Cut to done ∷ calls) bytes = cut to done ∷ seen calls bytes
seen (Sync ∷ calls) bytes = synced ∷ seen calls bytes

-- how many bytes of data some calls have
abbrev pub data_of : List Call → ℕ
data_of [] = 0
data_of (Look ∷ calls) = data_of calls
data_of (Write place count done ∷ calls) = count + data_of calls
data_of (Cut to done ∷ calls) = data_of calls
data_of (Sync ∷ calls) = data_of calls

-- a write of these bytes would bring the bytes of all writes above the room
abbrev pub FillsRoom : MemoryState → List ℕ → Type 0
FillsRoom disk bytes = disk.room < bytes_written disk.made + length bytes

-- what a write is recorded as: a call that changes nothing, if there is no room for it
abbrev pub write_call : MemoryState → ℕ → List ℕ → Bool → Made
write_call disk place bytes done = if nat_lt disk.room (bytes_written disk.made + length bytes) then looked else wrote place bytes done

-- a write that a stop cut short: its first bytes as written, and the rest filled
abbrev pub torn_bytes : ℕ → ℕ → List ℕ → List ℕ
torn_bytes part fill bytes = take part bytes ++ replicate (length bytes - part) fill

-- What one crash leaves after a call, by what a read gave before it and what the crash would have left: pending writes are cut short so, and
-- a cut that succeeded is made in full.
abbrev pub crash_of : ℕ → ℕ → Made → List ℕ → List ℕ → List ℕ
crash_of part fill looked held image = image
crash_of part fill (wrote place bytes done) held image = written place (torn_bytes part fill bytes) image
crash_of part fill (cut to true) held image = take to image
crash_of part fill (cut to false) held image = image
crash_of part fill synced held image = held

-- what one crash leaves after some calls
abbrev pub crash_after : ℕ → ℕ → List Made → List ℕ → List ℕ → List ℕ
crash_after part fill [] held image = image
crash_after part fill (call ∷ calls) held image = crash_after part fill calls (content_of call held) (crash_of part fill call held image)

-- what is made of a call in which a stop comes: all but a sync
abbrev pub made_of : Made → List Made
made_of looked = looked ∷ []
made_of (wrote place bytes done) = wrote place bytes done ∷ []
made_of (cut to done) = cut to done ∷ []
made_of synced = []

-- A stop comes in the call of this number, counted from 1: these calls are made then.
pub record IsStopped (calls : List Made) (number : ℕ) (made : List Made) : Type 0 where
  pub before : List Made
  pub last : Made
  pub in_call : take number calls ≡ before ++ last ∷ []
  pub stops : made ≡ before ++ made_of last

-- what one crash leaves at such a stop
pub record IsStopIn (disk : MemoryState) (number part fill : ℕ) (image : List ℕ) : Type 0 where
  pub made : List Made
  pub stopped : IsStopped disk.made number made
  pub left : image ≡ crash_after part fill made disk.first disk.first
