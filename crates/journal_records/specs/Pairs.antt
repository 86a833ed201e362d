-- Entries, each a command record and its answer, and the journals that they make up.
use Rattle.std.specs.Prelude.{◌+◌, ◌*◌, ℕ, List, ◌++◌, length, codes}
use Rattle.std.specs.List.{flat_map}
use Rattle.wire_records.specs.Records.{Record, IsRecord, encoding, most_body}
use Rattle.wire_records.specs.Commands.{Pair}
use Rattle.flow_orders.specs.Outcomes.{Outcome}
use Rattle.journal_records.specs.Replies.{answer_record, IsAnswer, most_reply_body}

-- An entry that can be in a journal: its numbers fit their widths, and both bodies are within their limits.
pub record IsPair (pair : Pair Record Outcome) : Type 0 where
  pub asked : IsRecord most_body pair.asked
  pub answer : IsAnswer pair.answer
  pub answered : IsRecord most_reply_body (answer_record pair.answer)

-- the bytes of an entry: those of the command record, as it was given, and then those of the answer's record
unfoldable pub pair_encoding : Pair Record Outcome → List ℕ
pair_encoding pair = encoding pair.asked ++ encoding (answer_record pair.answer)

-- the bytes of a journal of these entries, in version One
abbrev pub journal : List (Pair Record Outcome) → List ℕ
journal pairs = codes "FLOWJNL1" ++ flat_map pair_encoding pairs

-- the number of bytes of the longest entry: two heads of 5 bytes, and both bodies at their limits
abbrev pub longest_pair : ℕ
longest_pair = 263178

-- the number of bytes of the longest entry with a plain reply: the longest command record, and 13 bytes of the reply's
abbrev pub longest_plain_pair : ℕ
longest_plain_pair = 1042

-- how many bytes the record of any plain reply takes at most
abbrev pub plain_reply_room : ℕ
plain_reply_room = 13

-- how many bytes an entry with any plain reply takes at most
abbrev pub plain_room : Record → ℕ
plain_room asked = length (encoding asked) + plain_reply_room

-- how many bytes the entry of a batch that cleared takes, with this number of assets and orders
abbrev pub cleared_room : Record → (assets orders : ℕ) → ℕ
cleared_room asked assets orders = length (encoding asked) + (31 + 16 * assets + 12 * orders)

-- how many bytes the entry of a batch that was skipped takes, with this number of moves
abbrev pub skipped_room : Record → (moves : ℕ) → ℕ
skipped_room asked moves = length (encoding asked) + (45 + moves)
