-- How long a sequence of disk calls leaves a disk.
use Rattle.std.proofs.Common.{ℕ, ◌+◌, ◌≤◌, arith}
use Rattle.disk_edge.specs.Disks.{DiskState, IsDisk, AtEachMoment}
use Rattle.disk_edge.specs.Images.{TornWrite, After}
use Rattle.disk_edge.proofs.Moments.{then_more, weaker, no_call, at_the_end}
use Rattle.journal_disk.specs.Looking.{OnlyLooks}
use Rattle.journal_disk.specs.Lengths.{HasAtMost, ReachesAtMost}

-- up to a later place
pub reach_wider : (a b : ℕ) (old new : DiskState) → a ≤ b → ReachesAtMost a old new → ReachesAtMost b old new
reach_wider a b old new le reach = λ most enough short. reach most (omega (arith, le, enough)) short

-- one sequence of calls, followed by another
pub reach_more : (place : ℕ) (old mid new : DiskState) → IsDisk mid → ReachesAtMost place old mid → ReachesAtMost place mid new → ReachesAtMost place old new
reach_more place old mid new is_disk first second = λ most enough short.
    let run = first most enough short in
    then_more old mid new (HasAtMost most) run (second most enough (at_the_end old mid (HasAtMost most) is_disk run))

-- before any call
pub reach_none : (place : ℕ) (disk : DiskState) → IsDisk disk → ReachesAtMost place disk disk
reach_none place disk is_disk = λ most enough short. no_call disk (HasAtMost most) is_disk short

-- a call that only reads
pub reach_looks : (place : ℕ) (old new : DiskState) → OnlyLooks old new → ReachesAtMost place old new
reach_looks place old new looks = λ most enough short. weaker old new old.images (HasAtMost most) short looks.moments

-- a write reaches to its end
pub reach_write : (place count : ℕ) (old new : DiskState) → AtEachMoment old new (After (TornWrite place count) old.images) → ReachesAtMost (place + count) old new
reach_write place count old new run = λ most enough short.
    weaker old new (After (TornWrite place count) old.images) (HasAtMost most) (λ image made. omega (arith, enough, short made.0 made.1, made.2.no_longer)) run

-- an append writes its bytes after the commit byte, and then sets that byte
pub append_reaches : (place count : ℕ) (old mid new : DiskState) → IsDisk mid → AtEachMoment old mid (After (TornWrite (place + 1) count) old.images) → AtEachMoment mid new (After (TornWrite place 1) mid.images) → ReachesAtMost (place + (1 + count)) old new
append_reaches place count old mid new is_disk wrote opened =
    reach_more (place + (1 + count)) old mid new is_disk
    (reach_wider (place + 1 + count) (place + (1 + count)) old mid (omega arith) (reach_write (place + 1) count old mid wrote))
    (reach_wider (place + 1) (place + (1 + count)) mid new (omega arith) (reach_write place 1 mid new opened))
