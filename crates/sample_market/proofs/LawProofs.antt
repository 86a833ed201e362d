-- Samples are lawful, and their files are read as them.
use Rattle.std.proofs.Common.{◌≡◌, ℕ, List, [], ◌++◌, map, length, get_or, ap, subst, arith}
use Rattle.std.specs.Prelude.{All}
use Rattle.std.proofs.lemmas.List.Elements.{All-map}
use Rattle.std.proofs.lemmas.List.Folds.{flat_map-map}
use Rattle.wire_records.specs.Records.{IsRecord, encoding, most_body}
use Rattle.wire_records.specs.CommandRecords.{record_of}
use Rattle.wire_records.specs.Grammars.{encode_all}
use Rattle.wire_records.specs.Reading.{Reads, File, End}
use Rattle.wire_records.specs.declared.version.Version.TheVariants.{One}
use Rattle.wire_records.specs.Formats.{commands, command_magic_of}
use Rattle.wire_records.proofs.Prefixes.{states_none-from_few}
use Rattle.wire_records.proofs.Readings.{command_short}
use Rattle.wire_records.proofs.ReadingLaws.{file_read}
use Rattle.wire_records.proofs.RecordCode.{commands_readable}
use Rattle.sample_market.specs.Files.{sample, sample_file}
use Rattle.sample_market.specs.Laws.{SamplesAreLawful, SamplesAreRead}
use Rattle.sample_market.proofs.Lawful.{sample_lawful}

pub samples_are_lawful : SamplesAreLawful
samples_are_lawful = sample_lawful

-- the records of a sample are within the limit
records_short : (number orders : ℕ) → All (IsRecord most_body) (map record_of (sample number orders))
records_short number orders =
    let each = sample_lawful number orders in
    All-map (IsRecord most_body) record_of (sample number orders) (λ k d within. let one = each k d within in command_short (get_or (sample number orders) k d) one.fits one.short)

pub samples_are_read : SamplesAreRead
unfolding sample_file
samples_are_read limit number orders fits =
    let encoded : command_magic_of One ++ encode_all commands.units (map record_of (sample number orders)) ≡ sample_file number orders = ap (λ xs. command_magic_of One ++ xs) (flat_map-map encoding record_of (sample number orders)) in
    subst (λ (file : List ℕ). Reads commands limit file (File One (map record_of (sample number orders)) End)) encoded
    (file_read commands commands_readable (λ over. states_none-from_few over.0 [] (omega arith) over.1) limit One (map record_of (sample number orders)) tt (records_short number orders) (rw (ap length encoded) fits))
