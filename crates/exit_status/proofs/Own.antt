-- The statuses of a subcommand's own reasons to stop, as the first invalid entry.
use Rattle.exit_status.specs.declared.status.Status.{Status}
use Rattle.exit_status.specs.declared.status.Status.TheVariants as answer

-- a reason of its own is none of the other statuses
abbrev pub IsOwn : Status → Type 0
IsOwn answer.Done = ⊥
IsOwn answer.Usage = ⊥
IsOwn answer.NotFlow = ⊥
IsOwn (answer.Torn place) = ⊥
IsOwn answer.ReadFault = ⊥
IsOwn answer.WriteFault = ⊥
IsOwn answer.NoMemory = ⊥
IsOwn (answer.Rejected number) = Unit {0}
IsOwn (answer.TooLong most) = ⊥
IsOwn (answer.BadText number) = Unit {0}
IsOwn answer.BadCheckpoint = Unit {0}
IsOwn (answer.NoAccount number) = Unit {0}
IsOwn answer.DiskFault = ⊥
IsOwn answer.NotDisk = ⊥
IsOwn (answer.Damaged place) = ⊥
IsOwn (answer.Differs number) = ⊥
