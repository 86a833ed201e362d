-- Laws of samples, whatever code makes them.
use Rattle.std.specs.Prelude.{◌≤◌, ◌+◌, ◌*◌, ℕ, length, map, All}
use Rattle.wire_records.specs.Commands.{Command}
use Rattle.wire_records.specs.CommandRecords.{record_of, IsCommand, HasShortRow}
use Rattle.wire_records.specs.Reading.{Reads, File, End}
use Rattle.wire_records.specs.Versions.{IsOfVersion}
use Rattle.wire_records.specs.declared.version.Version.TheVariants.{One}
use Rattle.wire_records.specs.Formats.{commands}
use Rattle.sample_market.specs.Files.{sample, sample_file}

-- a command of version One, whose fields are in their ranges and whose legs, if it has any, fit a command record
pub record IsLawful (command : Command) : Type 0 where
  pub fits : IsCommand command
  pub short : HasShortRow command
  pub own : IsOfVersion One command

-- each command of a sample is lawful in this sense
abbrev pub SamplesAreLawful : Type 0
SamplesAreLawful = (number orders : ℕ) → All IsLawful (sample number orders)

-- the file of a sample that is within the limit is read to its end as the records of its commands
abbrev pub SamplesAreRead : Type 0
SamplesAreRead = (limit number orders : ℕ) → length (sample_file number orders) ≤ limit
    → Reads commands limit (sample_file number orders) (File One (map record_of (sample number orders)) End)

-- the file of a sample has at most 11,284 bytes, and 56 for each order
abbrev pub SamplesAreShort : Type 0
SamplesAreShort = (number orders : ℕ) → length (sample_file number orders) ≤ 11284 + 56 * orders
