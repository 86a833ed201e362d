-- The bodies of commands part by part, as they are written and read, and which of their numbers fit. They are those of the fields.
use Rattle.std.specs.Prelude.{◌≡◌, ℕ, List, [], ◌++◌, length, All, None, Some}
use Rattle.std.specs.List.{flat_map}
use Rattle.wire_fields.specs.Numbers.{unsigned, signed, IsUnsigned, IsSigned}
use Rattle.weight_rows.specs.declared.entries.Entry.{Entry}
use Rattle.wire_records.specs.Records.{Record, AreBytes}
use Rattle.wire_records.specs.Commands.{Request, Command, AddAsset, OpenAccount, Deposit, Withdraw, Place, CancelOrder, RunBatch, SetCredit}
use Rattle.wire_records.specs.CommandRecords.{tag_of}

-- the encoding of a leg: its asset in 2 bytes, and its weight in 4
unfoldable pub entry_encoding : Entry → List ℕ
entry_encoding e = unsigned 2 e.asset ++ signed 4 e.weight

-- the encoding of a request: its numbers, how many legs it has, and the legs
unfoldable pub request_encoding : Request → List ℕ
request_encoding r =
    unsigned 4 r.account ++ (signed 8 r.low ++ (signed 8 r.high ++ (unsigned 4 r.rate ++ (unsigned 8 r.cap
    ++ (unsigned 1 (length r.row) ++ flat_map entry_encoding r.row)))))

-- the body of each command's record, part by part
unfoldable pub body_encoding : Command → List ℕ
body_encoding (AddAsset ticker) = ticker
body_encoding OpenAccount = []
body_encoding (Deposit account None ticks) = unsigned 4 account ++ unsigned 8 ticks
body_encoding (Deposit account (Some asset) units) = unsigned 4 account ++ (unsigned 2 asset ++ unsigned 8 units)
body_encoding (Withdraw account None ticks) = unsigned 4 account ++ unsigned 8 ticks
body_encoding (Withdraw account (Some asset) units) = unsigned 4 account ++ (unsigned 2 asset ++ unsigned 8 units)
body_encoding (Place None request) = request_encoding request
body_encoding (CancelOrder account number) = unsigned 4 account ++ unsigned 8 number
body_encoding (RunBatch budget) = unsigned 4 budget
body_encoding (Place (Some last) request) = unsigned 4 last ++ request_encoding request
body_encoding (SetCredit account None ticks) = unsigned 4 account ++ unsigned 8 ticks
body_encoding (SetCredit account (Some asset) units) = unsigned 4 account ++ (unsigned 2 asset ++ unsigned 8 units)

-- a leg whose asset and weight are in the ranges of their fields
abbrev pub IsEntry : Entry → Type 0
IsEntry e = IsUnsigned 2 e.asset × IsSigned 4 e.weight

-- a request whose numbers and legs are in the ranges of their fields
pub record IsRequest (r : Request) : Type 0 where
  pub account : IsUnsigned 4 r.account
  pub low : IsSigned 8 r.low
  pub high : IsSigned 8 r.high
  pub rate : IsUnsigned 4 r.rate
  pub cap : IsUnsigned 8 r.cap
  pub count : IsUnsigned 1 (length r.row)
  pub row : All IsEntry r.row

-- each part of a command is in the range of its field
abbrev pub FitsCommand : Command → Type 0
FitsCommand (AddAsset ticker) = (length ticker ≡ 8) × AreBytes ticker
FitsCommand OpenAccount = Unit {0}
FitsCommand (Deposit account None ticks) = IsUnsigned 4 account × IsUnsigned 8 ticks
FitsCommand (Deposit account (Some asset) units) = IsUnsigned 4 account × IsUnsigned 2 asset × IsUnsigned 8 units
FitsCommand (Withdraw account None ticks) = IsUnsigned 4 account × IsUnsigned 8 ticks
FitsCommand (Withdraw account (Some asset) units) = IsUnsigned 4 account × IsUnsigned 2 asset × IsUnsigned 8 units
FitsCommand (Place None request) = IsRequest request
FitsCommand (CancelOrder account number) = IsUnsigned 4 account × IsUnsigned 8 number
FitsCommand (RunBatch budget) = IsUnsigned 4 budget
FitsCommand (Place (Some last) request) = IsUnsigned 4 last × IsRequest request
FitsCommand (SetCredit account None ticks) = IsUnsigned 4 account × IsUnsigned 8 ticks
FitsCommand (SetCredit account (Some asset) units) = IsUnsigned 4 account × IsUnsigned 2 asset × IsUnsigned 8 units

-- the record of each command, with its body part by part
abbrev pub record_encoding : Command → Record
record_encoding command = record { tag = tag_of command; body = body_encoding command }
