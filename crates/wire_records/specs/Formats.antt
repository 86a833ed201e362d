-- Records as the units of a file, and command files.
use Rattle.std.specs.Prelude.{◌<◌, ℕ, List, ◌+◌, ◌++◌, ◌∷◌, [], ◌⊎◌, codes}
use Rattle.wire_records.specs.Records.{Record, IsRecord, StatesLength, encoding, most_body}
use Rattle.wire_records.specs.Grammars.{Grammar, BeginsWith}
use Rattle.wire_records.specs.Reading.{Format}
use Rattle.wire_records.specs.declared.version.Version.{Version}
use Rattle.wire_records.specs.Versions.{number_of}

-- the encoding of versions: a magic for each
abbrev pub magics : (Version → List ℕ) → Grammar Version
magics magic_of = record { IsLawful = λ version. Unit {0}; encode = magic_of }

-- the encoding of records whose bodies have at most so many bytes
abbrev pub records : ℕ → Grammar Record
records limit = record { IsLawful = IsRecord limit; encode = encoding }

-- the first record states a body above the limit
abbrev pub StatesOver : ℕ → List ℕ → Type 0
StatesOver limit bytes = (n : ℕ) × StatesLength n bytes × (limit < n)

-- of two records in a row, each with its limit, the first one states a body above its limit, or it is complete and the next one does
abbrev pub EitherStatesOver : ℕ → ℕ → List ℕ → Type 0
EitherStatesOver limit next bytes =
    StatesOver limit bytes ⊎ ((first : Record) × (rest : List ℕ) × BeginsWith (records limit) bytes first rest × StatesOver next rest)

-- the magic of a command file of each version: a word, and the version's number as a digit (48 is `0`)
abbrev pub command_magic_of : Version → List ℕ
command_magic_of version = codes "FLOWCMD" ++ (48 + number_of version) ∷ []

-- the format of command files: a magic, and records whose bodies are within the limit
abbrev pub commands : Format Version Record
commands = record { magics = magics command_magic_of; units = records most_body; IsOverlong = StatesOver most_body }
