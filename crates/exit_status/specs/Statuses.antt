-- What each status prints, its exit code, and the status of each ending of a reading.
use Rattle.std.specs.Prelude.{ℕ, List, [], ◌++◌, codes, decimal}
use Rattle.wire_records.specs.Reading.{Ending, End, Torn, TooLong, Reading, NotFlow, File}
use Rattle.exit_status.specs.declared.status.Status.{Status}
use Rattle.exit_status.specs.declared.status.Status.TheVariants as status

-- the exit code
abbrev pub exit_of : Status → ℕ
exit_of status.Done = 0
exit_of status.Usage = 1
exit_of status.NotFlow = 2
exit_of (status.Torn place) = 3
exit_of status.ReadFault = 4
exit_of status.WriteFault = 5
exit_of status.NoMemory = 6
exit_of (status.Rejected number) = 7
exit_of (status.TooLong limit) = 8
exit_of (status.BadText number) = 9
exit_of status.BadCheckpoint = 10
exit_of (status.NoAccount number) = 11
exit_of status.DiskFault = 12
exit_of status.NotDisk = 13
exit_of (status.Damaged place) = 14
exit_of (status.Differs number) = 15

-- the line on standard error, with its line feed
abbrev pub line_of : Status → List ℕ
line_of status.Done = []
line_of status.Usage = codes "flow: usage\n"
line_of status.NotFlow = codes "flow: not a flow file\n"
line_of (status.Torn place) = codes "flow: torn at byte " ++ decimal place ++ codes "\n"
line_of status.ReadFault = codes "flow: read failed\n"
line_of status.WriteFault = codes "flow: write failed\n"
line_of status.NoMemory = codes "flow: no memory\n"
line_of (status.Rejected number) = codes "flow: pair " ++ decimal number ++ codes " is not legal\n"
line_of (status.TooLong limit) = codes "flow: more than " ++ decimal limit ++ codes " bytes\n"
line_of (status.BadText number) = codes "flow: line " ++ decimal number ++ codes " is no command\n"
line_of status.BadCheckpoint = codes "flow: checkpoint is not sound\n"
line_of (status.NoAccount number) = codes "flow: no account " ++ decimal number ++ codes "\n"
line_of status.DiskFault = codes "flow: disk failed\n"
line_of status.NotDisk = codes "flow: not a flow disk\n"
line_of (status.Damaged place) = codes "flow: disk damaged at byte " ++ decimal place ++ codes "\n"
line_of (status.Differs number) = codes "flow: entry " ++ decimal number ++ codes " is not what the lines ask for\n"

-- the status of an ending
abbrev pub ending_status : ℕ → Ending → Status
ending_status limit End = status.Done
ending_status limit (Torn place) = status.Torn place
ending_status limit TooLong = status.TooLong limit

-- the status of a reading
abbrev pub reading_status : {V U : Type 0} → ℕ → Reading V U → Status
reading_status limit NotFlow = status.NotFlow
reading_status limit (File version units ending) = ending_status limit ending
