-- What holds of the grammar of journals, whatever reads or writes them.
use Rattle.std.specs.Prelude.{◌≡◌, ◌<◌, ◌≤◌, ◌^◌, ℕ, ℤ, List, ◌++◌, length, map, All}
use Rattle.wire_records.specs.declared.reply.Reply.{Reply}
use Rattle.wire_records.specs.Records.{Record, IsRecord}
use Rattle.wire_records.specs.Commands.{Answer, Plain, Batch, Pair}
use Rattle.wire_records.specs.Grammars.{encode_all}
use Rattle.wire_records.specs.Reading.{Reading, File, End, Reads}
use Rattle.wire_records.specs.declared.version.Version.{Version}
use Rattle.wire_records.specs.declared.version.Version.TheVariants.{One}
use Rattle.weight_rows.specs.Rows.{IsPrice}
use Rattle.flow_orders.specs.Orders.{Order, IsOrder, most_orders}
use Rattle.flow_orders.specs.declared.search.Search.{Search}
use Rattle.flow_orders.specs.Outcomes.{Clearing, Skipping, Outcome, Cleared, Skipped, IsAdmissibleOutcome, most_budget}
use Rattle.flow_orders.specs.Residuals.{most_prices}
use Rattle.journal_records.specs.Replies.{answer_record, IsAnswer, most_reply_body, IsWithinLimits}
use Rattle.journal_records.specs.Pairs.{IsPair, pair_encoding, journal, plain_room, cleared_room, skipped_room}
use Rattle.journal_records.specs.Formats.{journals, journal_in, records_of}

-- a record encodes at most one answer
abbrev pub OneAnswer : Type 0
OneAnswer = (a b : Answer Outcome) → IsAnswer a → IsAnswer b → answer_record a ≡ answer_record b → a ≡ b

-- No entry's encoding is a proper prefix of another's: two entries that the same bytes begin with are one.
abbrev pub OnePair : Type 0
OnePair = (p q : Pair Record Outcome) (x y : List ℕ) → IsPair p → IsPair q → pair_encoding p ++ x ≡ pair_encoding q ++ y → (p ≡ q) × (x ≡ y)

-- an entry with a plain reply takes at most the space that is reserved for one
abbrev pub PairFits : Type 0
PairFits = (asked : Record) (reply : Reply) → length (pair_encoding (record { asked = asked; answer = Plain reply })) ≤ plain_room asked

-- an entry with a batch that cleared takes exactly the space that is reserved for it
abbrev pub ClearedPairFits : Type 0
ClearedPairFits =
    (asked : Record) (number : ℕ) (c : Clearing) → length c.residuals ≡ length c.prices
    → length (pair_encoding (record { asked = asked; answer = Batch number (Cleared c) })) ≡ cleared_room asked (length c.prices) (length c.fills)

-- an entry with a batch that was skipped takes exactly the space that is reserved for it
abbrev pub SkippedPairFits : Type 0
SkippedPairFits =
    (asked : Record) (number : ℕ) (s : Skipping) → length (pair_encoding (record { asked = asked; answer = Batch number (Skipped s) })) ≡ skipped_room asked (length s.trace)

-- the record of a plain reply is within the limit of replies
abbrev pub PlainRepliesFit : Type 0
PlainRepliesFit = (reply : Reply) → IsRecord most_reply_body (answer_record (Plain reply))

-- the record of a batch within the limits is within the limit of replies
abbrev pub BatchRepliesFit : Type 0
BatchRepliesFit =
    (number : ℕ) (outcome : Outcome) → IsAnswer (Batch number outcome) → IsWithinLimits outcome → IsRecord most_reply_body (answer_record (Batch number outcome))

-- The numbers of an admissible outcome, however prices are searched for, fit their widths, and it is within the limits: if there are at
-- most 16,384 orders, each within its limits and with a number below 2^64, and at most 64 start prices within their range.
abbrev pub AdmissibleOutcomesFit : Type 0
AdmissibleOutcomesFit =
    (search : Search) → 1 ≤ search.parts → (orders : List Order) (start : List ℤ) (budget number : ℕ) (outcome : Outcome)
    → All IsOrder orders → length orders ≤ most_orders → All (λ (o : Order). o.number < 2 ^ 64) orders → length start ≤ most_prices → All IsPrice start
    → budget ≤ most_budget → number < 2 ^ 32 → IsAdmissibleOutcome search orders start budget outcome → IsAnswer (Batch number outcome) × IsWithinLimits outcome

-- each list of bytes has exactly one reading as a journal
abbrev pub OneJournalFile : Type 0
OneJournalFile =
    (limit : ℕ) (bytes : List ℕ)
    → (r : Reading Version (Record × Record)) × Reads journals limit bytes r × ((s : Reading Version (Record × Record)) → Reads journals limit bytes s → s ≡ r)

-- a journal is the file of its entries' records, in each version
pub record JournalIsFile : Type 0 where
  pub one : (pairs : List (Pair Record Outcome)) → journal pairs ≡ journal_in One pairs
  pub file : (version : Version) (pairs : List (Pair Record Outcome)) → journal_in version pairs ≡ journals.magics.encode version ++ encode_all journals.units (map records_of pairs)

-- a journal within the limit is read as the records of its entries, in its version and to its end
abbrev pub JournalIsRead : Type 0
JournalIsRead =
    (limit : ℕ) (version : Version) (pairs : List (Pair Record Outcome)) → All IsPair pairs → length (journal_in version pairs) ≤ limit
    → Reads journals limit (journal_in version pairs) (File version (map records_of pairs) End)

-- journals that are the same bytes are of one version and have the same entries
abbrev pub OneJournal : Type 0
OneJournal = (v w : Version) (p q : List (Pair Record Outcome)) → All IsPair p → All IsPair q → journal_in v p ≡ journal_in w q → (v ≡ w) × (p ≡ q)
