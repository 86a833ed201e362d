-- The answers to commands, and the record that each is encoded as.
use Rattle.std.specs.Prelude.{◌≡◌, ◌≤◌, ℕ, List, [], ◌∷◌, ◌++◌, length, map, All}
use Rattle.std.specs.List.{flat_map}
use Rattle.wire_records.specs.declared.reply.Reply.TheVariants.{Done, Asset, Account, Order, Refused}
use Rattle.wire_records.specs.Records.{Record, IsRecord, encoding}
use Rattle.wire_records.specs.Commands.{Answer, Plain, Batch}
use Rattle.wire_records.specs.Refusals.{code_of}
use Rattle.flow_orders.specs.Orders.{most_orders}
use Rattle.flow_orders.specs.Residuals.{most_prices}
use Rattle.flow_orders.specs.Outcomes.{Fill, Outcome, Cleared, Skipped, most_budget}
use Rattle.wire_records.specs.Fields.{Field, Unsigned, Signed, Bytes, field_bytes, FitsField}

-- the fields of a fill: the order's number, and its rate
abbrev pub fill_fields : Fill → List Field
fill_fields f = Unsigned 8 f.order ∷ Unsigned 4 f.rate ∷ []

-- The record of each answer: its tag, and the fields of its body. A batch that cleared has its number, how many prices there are and the
-- prices, how many fills there are and the fills, the imbalances, and the gap. A batch that was skipped has its number, the dual values at
-- the start and at the end, how many moves there are, and the asset of each in a byte.
abbrev pub fields_of : Answer Outcome → ℕ × List Field
fields_of (Plain Done) = (128, [])
fields_of (Plain (Asset asset)) = (129, Unsigned 2 asset ∷ [])
fields_of (Plain (Account account)) = (130, Unsigned 4 account ∷ [])
fields_of (Plain (Order order)) = (131, Unsigned 8 order ∷ [])
fields_of (Plain (Refused refusal)) = (132, Unsigned 1 (code_of refusal) ∷ [])
fields_of (Batch number (Cleared c)) = (
  133,
  Unsigned 4 number ∷ Unsigned 2 (length c.prices) ∷ map (Signed 8) c.prices
      ++ Unsigned 4 (length c.fills) ∷ flat_map fill_fields c.fills ++ map (Signed 8) c.residuals ++ Signed 16 c.gap ∷ [],
)
fields_of (Batch number (Skipped s)) = (
  134,
  Unsigned 4 number ∷ Signed 16 s.start_dual ∷ Signed 16 s.end_dual ∷ Unsigned 4 (length s.trace) ∷ Bytes (length s.trace) s.trace ∷ [],
)

-- the body of each answer
unfoldable pub answer_body : Answer Outcome → List ℕ
answer_body answer = flat_map field_bytes (fields_of answer).1

-- the record of each answer
abbrev pub answer_record : Answer Outcome → Record
answer_record answer = record { tag = (fields_of answer).0; body = answer_body answer }

-- the value of each field of an answer fits, and a clearing has one imbalance for each price
abbrev pub IsAnswer : Answer Outcome → Type 0
IsAnswer (Plain reply) = All FitsField (fields_of (Plain reply)).1
IsAnswer (Batch number (Cleared c)) = All FitsField (fields_of (Batch number (Cleared c))).1 × (length c.residuals ≡ length c.prices)
IsAnswer (Batch number (Skipped s)) = All FitsField (fields_of (Batch number (Skipped s))).1

-- a record encodes an answer
pub record EncodesAnswer (r : Record) (answer : Answer Outcome) : Type 0 where
  pub fits : IsAnswer answer
  pub encoded : r ≡ answer_record answer

-- the longest body of a reply's record, in bytes
abbrev pub most_reply_body : ℕ
most_reply_body = 262144

-- the bytes are the record of this answer, whose values fit their fields, and whose body is within its limit
pub record AreAnswer (answer : Answer Outcome) (bytes : List ℕ) : Type 0 where
  pub fits : IsAnswer answer
  pub short : IsRecord most_reply_body (answer_record answer)
  pub encoded : bytes ≡ encoding (answer_record answer)

-- an outcome of at most 64 assets and 16,384 orders, or of at most as many moves as a budget may have
abbrev pub IsWithinLimits : Outcome → Type 0
IsWithinLimits (Cleared c) = (length c.prices ≤ most_prices) × (length c.fills ≤ most_orders)
IsWithinLimits (Skipped s) = length s.trace ≤ most_budget
