-- The record that encodes each command, and what a record is read as.
use Rattle.std.specs.Prelude.{◌≡◌, ◌≤◌, ℕ, List, [], ◌∷◌, length, All, Result, Ok, Err, None, Some}
use Rattle.std.specs.List.{flat_map}
use Rattle.weight_rows.specs.declared.entries.Entry.{Entry}
use Rattle.wire_records.specs.Records.{Record}
use Rattle.wire_records.specs.Fields.{Field, Unsigned, Signed, Bytes, field_bytes, FitsField}
use Rattle.wire_records.specs.Commands.{Request, Command, AddAsset, OpenAccount, Deposit, Withdraw, Place, CancelOrder, RunBatch, SetCredit}
use Rattle.wire_records.specs.declared.command.BodyFault.{BodyFault}
use Rattle.wire_records.specs.declared.command.BodyFault.TheVariants.{UnknownTag, BadBody}

-- the fields of a leg
abbrev pub entry_fields : Entry → List Field
entry_fields e = Unsigned 2 e.asset ∷ Signed 4 e.weight ∷ []

-- the fields of a request: its numbers, how many legs it has, and the legs
abbrev pub request_fields : Request → List Field
request_fields r =
    Unsigned 4 r.account ∷ Signed 8 r.low ∷ Signed 8 r.high ∷ Unsigned 4 r.rate ∷ Unsigned 8 r.cap ∷ Unsigned 1 (length r.row) ∷ flat_map entry_fields r.row

-- the record of each command: its tag, and the fields of its body
abbrev pub fields_of : Command → ℕ × List Field
fields_of (AddAsset ticker) = (1, Bytes 8 ticker ∷ [])
fields_of OpenAccount = (2, [])
fields_of (Deposit account None ticks) = (3, Unsigned 4 account ∷ Unsigned 8 ticks ∷ [])
fields_of (Deposit account (Some asset) units) = (4, Unsigned 4 account ∷ Unsigned 2 asset ∷ Unsigned 8 units ∷ [])
fields_of (Withdraw account None ticks) = (5, Unsigned 4 account ∷ Unsigned 8 ticks ∷ [])
fields_of (Withdraw account (Some asset) units) = (6, Unsigned 4 account ∷ Unsigned 2 asset ∷ Unsigned 8 units ∷ [])
fields_of (Place None request) = (7, request_fields request)
fields_of (CancelOrder account number) = (8, Unsigned 4 account ∷ Unsigned 8 number ∷ [])
fields_of (RunBatch budget) = (9, Unsigned 4 budget ∷ [])
fields_of (Place (Some last) request) = (10, Unsigned 4 last ∷ request_fields request)
fields_of (SetCredit account None ticks) = (11, Unsigned 4 account ∷ Unsigned 8 ticks ∷ [])
fields_of (SetCredit account (Some asset) units) = (12, Unsigned 4 account ∷ Unsigned 2 asset ∷ Unsigned 8 units ∷ [])

-- the tag of each command
abbrev pub tag_of : Command → ℕ
tag_of command = (fields_of command).0

-- the body of each command's record
unfoldable pub body_of : Command → List ℕ
body_of command = flat_map field_bytes (fields_of command).1

-- the record that encodes each command
abbrev pub record_of : Command → Record
record_of command = record { tag = tag_of command; body = body_of command }

-- the value of each field of a command fits
abbrev pub IsCommand : Command → Type 0
IsCommand command = All FitsField (fields_of command).1

-- the most legs of an order whose record is within the limit of command records
abbrev pub most_row : ℕ
most_row = 165

-- the most legs of an order whose record is within that limit and also names its last batch
abbrev pub most_row_until : ℕ
most_row_until = 164

-- the legs of a command, if it has any, are few enough for a record within the limit of command records
abbrev pub HasShortRow : Command → Type 0
HasShortRow (AddAsset ticker) = Unit {0}
HasShortRow OpenAccount = Unit {0}
HasShortRow (Deposit account kind count) = Unit {0}
HasShortRow (Withdraw account kind count) = Unit {0}
HasShortRow (Place None request) = length request.row ≤ most_row
HasShortRow (CancelOrder account number) = Unit {0}
HasShortRow (RunBatch budget) = Unit {0}
HasShortRow (Place (Some last) request) = length request.row ≤ most_row_until
HasShortRow (SetCredit account kind count) = Unit {0}

-- the record encodes this command
pub record Encodes (command : Command) (r : Record) : Type 0 where
  pub fits : IsCommand command
  pub encoded : r ≡ record_of command

-- the tag of some command, 1 to 12
abbrev pub IsTag : ℕ → Type 0
IsTag tag = (1 ≤ tag) × (tag ≤ 12)

-- the record encodes no command
abbrev pub EncodesNone : Record → Type 0
EncodesNone r = (command : Command) → ¬ Encodes command r

-- What a record is read as, whatever the version: the command that it encodes, or why there is none. Each record of bytes has
-- exactly one such reading, by the laws.
abbrev pub IsRead : Record → Result Command BodyFault → Type 0
IsRead r (Ok command) = Encodes command r
IsRead r (Err UnknownTag) = ¬ IsTag r.tag
IsRead r (Err BadBody) = IsTag r.tag × EncodesNone r
