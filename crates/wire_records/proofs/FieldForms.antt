-- The body of a command by its fields is that part by part, and its fields fit where the parts do.
use Rattle.std.proofs.Common.{◌≡◌, ℕ, List, [], ◌∷◌, ◌++◌, length, append_assoc, refl, sym, ap, ◌∙◌, None, Some}
use Rattle.std.specs.List.{flat_map, AllByRecursion}
use Rattle.std.proofs.lemmas.List.{append-nil}
use Rattle.std.proofs.lemmas.List.Elements.{All-from_recursion, recursion_from_All}
use Rattle.wire_fields.specs.Numbers.{unsigned, signed}
use Rattle.weight_rows.specs.declared.entries.Entry.{Entry}
use Rattle.wire_records.specs.Fields.{field_bytes, FitsField}
use Rattle.wire_records.specs.Commands.{Request, Command, AddAsset, OpenAccount, Deposit, Withdraw, Place, CancelOrder, RunBatch, SetCredit}
use Rattle.wire_records.specs.CommandRecords.{entry_fields, request_fields, fields_of, body_of, IsCommand}
use Rattle.wire_records.specs.Bodies.{entry_encoding, request_encoding, body_encoding, IsEntry, IsRequest, FitsCommand}

-- the fields of legs
entries_bytes : (row : List Entry) → flat_map field_bytes (flat_map entry_fields row) ≡ flat_map entry_encoding row
unfolding entry_encoding
entries_bytes [] = refl
entries_bytes (e ∷ row) =
    ap (λ xs. unsigned 2 e.asset ++ (signed 4 e.weight ++ xs)) (entries_bytes row) ∙ sym (append_assoc (unsigned 2 e.asset) (signed 4 e.weight) (flat_map entry_encoding row))

entries_fit : (row : List Entry) → AllByRecursion IsEntry row → AllByRecursion FitsField (flat_map entry_fields row)
entries_fit [] h = tt
entries_fit (e ∷ row) h = (h.0.0, (h.0.1, entries_fit row h.1))

entries_from : (row : List Entry) → AllByRecursion FitsField (flat_map entry_fields row) → AllByRecursion IsEntry row
entries_from [] h = tt
entries_from (e ∷ row) h = ((h.0, h.1.0), entries_from row h.1.1)

-- the fields of a request
request_bytes : (r : Request) → flat_map field_bytes (request_fields r) ≡ request_encoding r
unfolding request_encoding
request_bytes r =
    ap (λ xs. unsigned 4 r.account ++ (signed 8 r.low ++ (signed 8 r.high ++ (unsigned 4 r.rate ++ (unsigned 8 r.cap ++ (unsigned 1 (length r.row) ++ xs)))))) (entries_bytes r.row)

request_fits : (r : Request) → IsRequest r → AllByRecursion FitsField (request_fields r)
request_fits r h = (h.account, (h.low, (h.high, (h.rate, (h.cap, (h.count, entries_fit r.row (recursion_from_All IsEntry r.row h.row)))))))

request_from : (r : Request) → AllByRecursion FitsField (request_fields r) → IsRequest r
request_from r h = record {
  account = h.0;
  low = h.1.0;
  high = h.1.1.0;
  rate = h.1.1.1.0;
  cap = h.1.1.1.1.0;
  count = h.1.1.1.1.1.0;
  row = All-from_recursion IsEntry r.row (entries_from r.row h.1.1.1.1.1.1);
}

-- two fields, and three
two : (a b : List ℕ) → a ++ (b ++ []) ≡ a ++ b
two a b = ap (λ xs. a ++ xs) (append-nil b)

three : (a b c : List ℕ) → a ++ (b ++ (c ++ [])) ≡ a ++ (b ++ c)
three a b c = ap (λ xs. a ++ (b ++ xs)) (append-nil c)

-- the body of a command
pub body_is_plain : (c : Command) → body_of c ≡ body_encoding c
unfolding body_of body_encoding
body_is_plain (AddAsset ticker) = append-nil ticker
body_is_plain OpenAccount = refl
body_is_plain (Deposit account None ticks) = two (unsigned 4 account) (unsigned 8 ticks)
body_is_plain (Deposit account (Some asset) units) = three (unsigned 4 account) (unsigned 2 asset) (unsigned 8 units)
body_is_plain (Withdraw account None ticks) = two (unsigned 4 account) (unsigned 8 ticks)
body_is_plain (Withdraw account (Some asset) units) = three (unsigned 4 account) (unsigned 2 asset) (unsigned 8 units)
body_is_plain (Place None request) = request_bytes request
body_is_plain (CancelOrder account number) = two (unsigned 4 account) (unsigned 8 number)
body_is_plain (RunBatch budget) = append-nil (unsigned 4 budget)
body_is_plain (Place (Some last) request) = ap (λ xs. unsigned 4 last ++ xs) (request_bytes request)
body_is_plain (SetCredit account None ticks) = two (unsigned 4 account) (unsigned 8 ticks)
body_is_plain (SetCredit account (Some asset) units) = three (unsigned 4 account) (unsigned 2 asset) (unsigned 8 units)

-- the fields of a command fit if its parts do, by recursion on their list
fields_fit : (c : Command) → FitsCommand c → AllByRecursion FitsField (fields_of c).1
fields_fit (AddAsset ticker) h = (h, tt)
fields_fit OpenAccount h = tt
fields_fit (Deposit account None ticks) h = (h.0, (h.1, tt))
fields_fit (Deposit account (Some asset) units) h = (h.0, (h.1, (h.2, tt)))
fields_fit (Withdraw account None ticks) h = (h.0, (h.1, tt))
fields_fit (Withdraw account (Some asset) units) h = (h.0, (h.1, (h.2, tt)))
fields_fit (Place None request) h = request_fits request h
fields_fit (CancelOrder account number) h = (h.0, (h.1, tt))
fields_fit (RunBatch budget) h = (h, tt)
fields_fit (Place (Some last) request) h = (h.0, request_fits request h.1)
fields_fit (SetCredit account None ticks) h = (h.0, (h.1, tt))
fields_fit (SetCredit account (Some asset) units) h = (h.0, (h.1, (h.2, tt)))

fields_from : (c : Command) → AllByRecursion FitsField (fields_of c).1 → FitsCommand c
fields_from (AddAsset ticker) h = h.0
fields_from OpenAccount h = tt
fields_from (Deposit account None ticks) h = (h.0, h.1.0)
fields_from (Deposit account (Some asset) units) h = (h.0, h.1.0, h.1.1.0)
fields_from (Withdraw account None ticks) h = (h.0, h.1.0)
fields_from (Withdraw account (Some asset) units) h = (h.0, h.1.0, h.1.1.0)
fields_from (Place None request) h = request_from request h
fields_from (CancelOrder account number) h = (h.0, h.1.0)
fields_from (RunBatch budget) h = h.0
fields_from (Place (Some last) request) h = (h.0, request_from request h.1)
fields_from (SetCredit account None ticks) h = (h.0, h.1.0)
fields_from (SetCredit account (Some asset) units) h = (h.0, h.1.0, h.1.1.0)

-- the fields of a command fit exactly if its parts do
pub command_fits : (c : Command) → FitsCommand c → IsCommand c
command_fits c h = All-from_recursion FitsField (fields_of c).1 (fields_fit c h)

pub command_from : (c : Command) → IsCommand c → FitsCommand c
command_from c h = fields_from c (recursion_from_All FitsField (fields_of c).1 h)
