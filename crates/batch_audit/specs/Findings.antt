-- Why an entry is no step of a market: the first of the findings that holds, in the order of the enum. Each says what
-- it finds, and that none of those before it holds.
use Rattle.std.specs.Prelude.{◌≡◌, ◌≢◌, ℕ, ◌+◌, ℤ, pos, List, length, None, Ok}
use Rattle.wire_records.specs.Records.{Record}
use Rattle.wire_records.specs.Commands.{RunBatch, Answer, Plain, Batch}
use Rattle.wire_records.specs.Versions.{IsReadAs}
use Rattle.wire_records.specs.declared.reply.Reply.{Reply}
use Rattle.flow_orders.specs.Orders.{Order}
use Rattle.flow_orders.specs.Outcomes.{Clearing, Skipping, Outcome, Cleared, Skipped, IsAdmissibleOutcome, IsWide, IsLegalFrom, EndsSettled, end_of, dual_of}
use Rattle.price_moves.specs.Retracing.{IsFirstIllegal}
use Rattle.batch_certificate.specs.declared.verdict.Verdict.TheVariants.{Right}
use Rattle.batch_certificate.specs.Verdicts.{IsVerdict}
use Rattle.journal_records.specs.Replies.{EncodesAnswer}
use Rattle.market_rules.specs.Market.{Market, parts_of, start_prices}
use Rattle.market_rules.specs.Step.{FirstRefusal}
use Rattle.market_rules.specs.Journal.{Step}
use Rattle.batch_audit.specs.Legal.{IsLegalPair}
use Rattle.batch_audit.specs.declared.finding.Finding.{Finding}
use Rattle.batch_audit.specs.declared.finding.Finding.TheVariants as finding

-- the record gets this plain reply, and so no other answer
abbrev pub GetsReply : Market → Record → Reply → Type 0
GetsReply market asked reply = (new : Market) × Step IsReadAs IsAdmissibleOutcome market asked (Plain reply) new

-- a batch of this budget is due: the record asks for it, and no refusal stops it
pub record IsDue (market : Market) (asked : Record) (budget : ℕ) : Type 0 where
  pub asks : IsReadAs market.version asked (Ok (RunBatch budget))
  pub allowed : FirstRefusal market (RunBatch budget) None

-- the entry has another reply than the plain one that its record gets
pub record HasOtherReply (market : Market) (pair : Record × Record) (reply : Reply) : Type 0 where
  pub answer : Answer Outcome
  pub encoded : EncodesAnswer pair.1 answer
  pub gets : GetsReply market pair.0 reply
  pub other : answer ≢ Plain reply

-- a batch is due under this number, and the entry's reply has no outcome under it
pub record HasOtherBatch (market : Market) (pair : Record × Record) (number : ℕ) : Type 0 where
  pub answer : Answer Outcome
  pub encoded : EncodesAnswer pair.1 answer
  pub budget : ℕ
  pub due : IsDue market pair.0 budget
  pub next : number ≡ market.batches + 1
  pub other : (outcome : Outcome) → answer ≢ Batch number outcome

-- a batch is due, and the entry's reply is this clearing under its number
pub record TellsClearing (market : Market) (pair : Record × Record) : Type 0 where
  pub clearing : Clearing
  pub encoded : EncodesAnswer pair.1 (Batch (market.batches + 1) (Cleared clearing))
  pub budget : ℕ
  pub due : IsDue market pair.0 budget

-- a batch of this budget is due, and the entry's reply is this skip under its number
pub record TellsSkip (market : Market) (pair : Record × Record) : Type 0 where
  pub skipping : Skipping
  pub encoded : EncodesAnswer pair.1 (Batch (market.batches + 1) (Skipped skipping))
  pub budget : ℕ
  pub due : IsDue market pair.0 budget

-- a skip is admissible up to the length of its trace: some order has two legs or more, and there is a byte for each move
pub record HasWholeTrace (orders : List Order) (budget : ℕ) (s : Skipping) : Type 0 where
  pub wide : IsWide orders
  pub whole : length s.trace ≡ budget

-- a skip is admissible up to its moves; the excess that ends a move is counted in 1/`parts` of a unit
pub record HasLegalTrace (parts : ℕ) (orders : List Order) (start : List ℤ) (budget : ℕ) (s : Skipping) : Type 0 where
  pub whole : HasWholeTrace orders budget s
  pub legal : IsLegalFrom parts orders start s.trace

-- a skip is admissible up to the end of its moves: some asset is unsettled there
pub record EndsUnsettled (parts : ℕ) (orders : List Order) (start : List ℤ) (budget : ℕ) (s : Skipping) : Type 0 where
  pub walked : HasLegalTrace parts orders start budget s
  pub unsettled : ¬ EndsSettled parts orders start s.trace

-- a skip is admissible up to the dual value at the start, in grains
pub record HasStartDual (parts : ℕ) (orders : List Order) (start : List ℤ) (budget : ℕ) (s : Skipping) : Type 0 where
  pub ends : EndsUnsettled parts orders start budget s
  pub start_dual : s.start_dual ≡ pos (dual_of orders start)

-- a published dual value, in grains, isn't the true one at these prices, which is `right`
pub record IsOtherDual (orders : List Order) (prices : List ℤ) (told right : ℤ) : Type 0 where
  pub right_is : right ≡ pos (dual_of orders prices)
  pub other : told ≢ right

-- the finding on an entry: this one holds, and none of those before it does
abbrev pub IsFinding : Market → Record × Record → Finding → Type 0
IsFinding m pair finding.NoReply = (answer : Answer Outcome) → ¬ EncodesAnswer pair.1 answer
IsFinding m pair (finding.OtherReply reply) = HasOtherReply m pair reply
IsFinding m pair (finding.Batch number) = HasOtherBatch m pair number
IsFinding m pair (finding.Part verdict) = (told : TellsClearing m pair) × IsVerdict m.orders (start_prices m) told.clearing verdict × (verdict ≢ Right)
IsFinding m pair finding.SingleBook = TellsSkip m pair × (¬ IsWide m.orders)
IsFinding m pair finding.TraceLength = (told : TellsSkip m pair) × IsWide m.orders × (length told.skipping.trace ≢ told.budget)
IsFinding m pair (finding.TraceStep place) =
    (told : TellsSkip m pair) × HasWholeTrace m.orders told.budget told.skipping × IsFirstIllegal (parts_of m.version) m.orders (start_prices m) told.skipping.trace place
IsFinding m pair finding.AllSettled =
    (told : TellsSkip m pair) × HasLegalTrace (parts_of m.version) m.orders (start_prices m) told.budget told.skipping
    × EndsSettled (parts_of m.version) m.orders (start_prices m) told.skipping.trace
IsFinding m pair (finding.StartDual right) =
    (told : TellsSkip m pair) × EndsUnsettled (parts_of m.version) m.orders (start_prices m) told.budget told.skipping
    × IsOtherDual m.orders (start_prices m) told.skipping.start_dual right
IsFinding m pair (finding.EndDual right) =
    (told : TellsSkip m pair) × HasStartDual (parts_of m.version) m.orders (start_prices m) told.budget told.skipping
    × IsOtherDual m.orders (end_of (parts_of m.version) m.orders (start_prices m) told.skipping.trace) told.skipping.end_dual right
IsFinding m pair finding.Legal = (new : Market) × IsLegalPair m pair new
