-- What the faults of the calls below are.
use Rattle.journal_disk.specs.declared.fault.DiskFault.{DiskFault}
use Rattle.journal_disk.specs.declared.fault.DiskFault.TheVariants as disk
use Rattle.journal_keeping.specs.declared.fault.OpenFault.TheVariants as unopened
use Rattle.journal_keeping.specs.declared.fault.InputFault.TheVariants as unread
use Rattle.desk_opening.specs.declared.opening.StartFault.{StartFault}
use Rattle.desk_opening.specs.declared.opening.StartFault.TheVariants as start
use Rattle.desk_keeping.specs.declared.fault.HostFault.{HostFault}
use Rattle.desk_keeping.specs.declared.fault.HostFault.TheVariants as host

-- a fault of the disk
abbrev pub of_disk : DiskFault → HostFault
of_disk disk.Failed = host.Disk
of_disk disk.NotDisk = host.NotDisk
of_disk (disk.Damaged place) = host.Damaged place
of_disk disk.Memory = host.Memory

-- why nothing was hosted
abbrev pub of_start : StartFault → HostFault
of_start (start.Open unopened.Disk) = host.Disk
of_start (start.Open unopened.Memory) = host.Memory
of_start (start.Open unopened.NotDisk) = host.NotDisk
of_start (start.Open (unopened.Damaged place)) = host.Damaged place
of_start (start.Open (unopened.Rejected number)) = host.Rejected number
of_start (start.Input unread.Read) = host.Read
of_start (start.Input unread.Memory) = host.Memory
of_start (start.Input unread.NotFlow) = host.NotFlow
of_start (start.Input unread.BadCheckpoint) = host.BadCheckpoint
of_start start.Differs = host.Differs 0
of_start start.Make = host.Disk
