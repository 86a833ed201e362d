-- Laws of the grammar, whatever reads or writes it.
use Rattle.std.specs.Prelude.{◌≡◌, ◌≢◌, ◌<◌, ◌≤◌, ◌^◌, ℕ, List, ◌++◌, ◌↔◌, length, All, Result, Ok}
use Rattle.wire_records.specs.Records.{Record, AreBytes, IsRecord, encoding, most_body}
use Rattle.wire_records.specs.Framing.{IsPrefix}
use Rattle.wire_records.specs.Commands.{Command}
use Rattle.wire_records.specs.CommandRecords.{record_of, IsCommand, HasShortRow, Encodes, IsRead}
use Rattle.wire_records.specs.declared.version.Version.{Version}
use Rattle.wire_records.specs.declared.version.Version.TheVariants.{One}
use Rattle.wire_records.specs.Versions.{IsOfVersion, IsReadAs}
use Rattle.wire_records.specs.declared.reply.Refusal.{Refusal}
use Rattle.wire_records.specs.Refusals.{code_of}
use Rattle.wire_records.specs.declared.command.BodyFault.{BodyFault}
use Rattle.wire_records.specs.declared.record.Framed.{Framed}
use Rattle.wire_records.specs.declared.record.Framed.TheVariants.{Whole}
use Rattle.wire_records.specs.Grammars.{encode_all}
use Rattle.wire_records.specs.Reading.{Reading, File, Ending, End, Reads, StartsWith}
use Rattle.wire_records.specs.Formats.{commands}

-- No record's encoding is a proper prefix of another's: bytes begin with the encoding of at most one record.
abbrev pub OneRecord : Type 0
OneRecord =
    (limit : ℕ) (r s : Record) (x y : List ℕ) → limit < 2 ^ 32 → IsRecord limit r → IsRecord limit s → encoding r ++ x ≡ encoding s ++ y → (r ≡ s) × (x ≡ y)

-- a record encodes at most one command
abbrev pub OneCommand : Type 0
OneCommand = (c d : Command) (r : Record) → Encodes c r → Encodes d r → c ≡ d

-- no two refusals have the same code
abbrev pub OneRefusal : Type 0
OneRefusal = (a b : Refusal) → code_of a ≡ code_of b → a ≡ b

-- under a limit below 2^32, it is unique what bytes begin with
abbrev pub OnePrefix : Type 0
OnePrefix = (a b : Framed) (limit : ℕ) (bytes : List ℕ) → limit < 2 ^ 32 → IsPrefix a limit bytes → IsPrefix b limit bytes → a ≡ b

-- bytes that begin with a record's encoding are framed as that record, whatever follows it
abbrev pub WrittenIsFramed : Type 0
WrittenIsFramed =
    (limit : ℕ) (r : Record) (rest : List ℕ) (prefix : Framed) → limit < 2 ^ 32 → IsRecord limit r → IsPrefix prefix limit (encoding r ++ rest) → prefix ≡ Whole r (length (encoding r))

-- in a version a record is read as at most one command or fault
abbrev pub OneReading : Type 0
OneReading = (version : Version) (r : Record) (a b : Result Command BodyFault) → IsReadAs version r a → IsReadAs version r b → a ≡ b

-- in each version each record of bytes is read as a command or a fault
abbrev pub EachIsRead : Type 0
EachIsRead = (version : Version) (r : Record) → AreBytes r.body → (read : Result Command BodyFault) × IsReadAs version r read

-- in a version that has it, the record of a command is read as that command
abbrev pub CommandIsRead : Type 0
CommandIsRead = (version : Version) (c : Command) (r : Record) (read : Result Command BodyFault)
    → IsOfVersion version c → Encodes c r → IsReadAs version r read → read ≡ Ok c

-- what a record is read as whatever the version is its reading in each version after the first, as these have all commands
abbrev pub ReadInLater : Type 0
ReadInLater = (version : Version) (r : Record) (read : Result Command BodyFault) → version ≢ One → IsRead r read ↔ IsReadAs version r read

-- a command that is read in a version is a command of that version
abbrev pub ReadsItsOwn : Type 0
ReadsItsOwn = (version : Version) (r : Record) (c : Command) → IsReadAs version r (Ok c) → IsOfVersion version c

-- the record of a command with few enough legs, if it has any, is within the limit of command records
abbrev pub CommandIsShort : Type 0
CommandIsShort = (c : Command) → IsCommand c → HasShortRow c → IsRecord most_body (record_of c)

-- each list of bytes has exactly one reading as a command file
abbrev pub OneFile : Type 0
OneFile = (limit : ℕ) (bytes : List ℕ) → (r : Reading Version Record) × Reads commands limit bytes r × ((s : Reading Version Record) → Reads commands limit bytes s → s ≡ r)

-- records that a command file starts with are the first of its reading
abbrev pub FirstOfFile : Type 0
FirstOfFile =
    (limit : ℕ) (bytes : List ℕ) (v w : Version) (first all : List Record) (ending : Ending)
    → StartsWith commands limit bytes v first → Reads commands limit bytes (File w all ending) → (v ≡ w) × (more : List Record) × (all ≡ first ++ more)

-- a file of records within the limit is read as these records, to its end
abbrev pub FileIsRead : Type 0
FileIsRead =
    (limit : ℕ) (version : Version) (records : List Record) → All (IsRecord most_body) records
    → length (commands.magics.encode version ++ encode_all commands.units records) ≤ limit
    → Reads commands limit (commands.magics.encode version ++ encode_all commands.units records) (File version records End)
