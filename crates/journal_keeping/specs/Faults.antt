-- The faults of the parts of keeping a journal as faults of the whole.
use Rattle.std.specs.Prelude.{Result, Ok, Err, ⊤}
use Rattle.file_units.specs.declared.units.Ending.{Ending}
use Rattle.file_units.specs.declared.units.Ending.TheVariants as ending
use Rattle.file_units.specs.declared.input.TakeFault.{TakeFault}
use Rattle.file_units.specs.declared.input.TakeFault.TheVariants as take
use Rattle.journal_disk.specs.declared.fault.DiskFault.{DiskFault}
use Rattle.journal_disk.specs.declared.fault.DiskFault.TheVariants as disk
use Rattle.journal_keeping.specs.declared.fault.OpenFault.{OpenFault}
use Rattle.journal_keeping.specs.declared.fault.OpenFault.TheVariants as unopened
use Rattle.journal_keeping.specs.declared.fault.InputFault.TheVariants as input
use Rattle.journal_keeping.specs.declared.fault.BeginFault.{BeginFault}
use Rattle.journal_keeping.specs.declared.fault.BeginFault.TheVariants.{Open, Input, Make}
use Rattle.journal_keeping.specs.declared.fault.ServeFault.{ServeFault}
use Rattle.journal_keeping.specs.declared.fault.ServeFault.TheVariants as serve
use Rattle.journal_keeping.specs.declared.fault.KeepFault.{KeepFault}
use Rattle.journal_keeping.specs.declared.fault.KeepFault.TheVariants.{Read, Write, Disk, Memory, NotDisk, Damaged, Rejected, NotFlow, BadCheckpoint, Torn, TooLong}

-- a fault of the journal on a disk as one of opening the disk
abbrev pub of_disk : DiskFault → OpenFault
of_disk disk.Failed = unopened.Disk
of_disk disk.NotDisk = unopened.NotDisk
of_disk (disk.Damaged place) = unopened.Damaged place
of_disk disk.Memory = unopened.Memory

-- why nothing was served as a fault of keeping
abbrev pub of_begin : BeginFault → KeepFault
of_begin (Open unopened.Disk) = Disk
of_begin (Open unopened.Memory) = Memory
of_begin (Open unopened.NotDisk) = NotDisk
of_begin (Open (unopened.Damaged place)) = Damaged place
of_begin (Open (unopened.Rejected number)) = Rejected number
of_begin (Input input.Read) = Read
of_begin (Input input.Memory) = Memory
of_begin (Input input.NotFlow) = NotFlow
of_begin (Input input.BadCheckpoint) = BadCheckpoint
of_begin Make = Disk

-- why a command wasn't served, kept and answered as a fault of keeping
abbrev pub of_serve : ServeFault → KeepFault
of_serve serve.Disk = Disk
of_serve serve.Write = Write
of_serve serve.Memory = Memory

-- how going through an input ends as the result of keeping
abbrev pub kept_result : Result Ending (TakeFault ServeFault) → Result ⊤ KeepFault
kept_result (Ok ending.End) = Ok tt
kept_result (Ok (ending.Torn place)) = Err (Torn place)
kept_result (Ok ending.TooLong) = Err TooLong
kept_result (Err take.Read) = Err Read
kept_result (Err (take.Broken fault)) = Err (of_serve fault)
