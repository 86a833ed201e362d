-- The versions of the formats, which commands each has, and what a record is read as in each.
use Rattle.std.specs.Prelude.{◌≤◌, ℕ, Result, Ok, Err}
use Rattle.wire_records.specs.Records.{Record}
use Rattle.wire_records.specs.Commands.{Command}
use Rattle.wire_records.specs.CommandRecords.{tag_of, Encodes, EncodesNone}
use Rattle.wire_records.specs.declared.command.BodyFault.{BodyFault}
use Rattle.wire_records.specs.declared.command.BodyFault.TheVariants.{UnknownTag, BadBody}
use Rattle.wire_records.specs.declared.version.Version.{Version}
use Rattle.wire_records.specs.declared.version.Version.TheVariants.{One, Two, Three, Four}

-- the number of each version
abbrev pub number_of : Version → ℕ
number_of One = 1
number_of Two = 2
number_of Three = 3
number_of Four = 4

-- the highest tag of a command of each version
abbrev pub most_tag : Version → ℕ
most_tag One = 9
most_tag Two = 12
most_tag Three = 12
most_tag Four = 12

-- a tag of a command of a version
abbrev pub IsTagOf : Version → ℕ → Type 0
IsTagOf version tag = (1 ≤ tag) × (tag ≤ most_tag version)

-- a command of a version
abbrev pub IsOfVersion : Version → Command → Type 0
IsOfVersion version command = IsTagOf version (tag_of command)

-- the version has the command that names the last batch of an order
abbrev pub HasLastBatches : Version → Type 0
HasLastBatches version = 10 ≤ most_tag version

-- the version has the commands that give credit
abbrev pub HasCredit : Version → Type 0
HasCredit version = 11 ≤ most_tag version

-- What a record is read as in a version: the command that it encodes, or why there is none; a tag that the version doesn't
-- have is unknown, whatever the body is. Each record of bytes has exactly one reading in each version, by the laws.
abbrev pub IsReadAs : Version → Record → Result Command BodyFault → Type 0
IsReadAs version r (Ok command) = IsTagOf version r.tag × Encodes command r
IsReadAs version r (Err UnknownTag) = ¬ IsTagOf version r.tag
IsReadAs version r (Err BadBody) = IsTagOf version r.tag × EncodesNone r
