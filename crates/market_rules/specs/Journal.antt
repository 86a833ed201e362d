-- Sequences of steps, valid journals, and the fills of their orders.
use Rattle.std.specs.Prelude.{◌≡◌, ℕ, ◌==◌, if◌then◌else◌, List, [], ◌∷◌, map, Option, Result, Ok}
use Rattle.std.specs.List.{sum_by}
use Rattle.wire_records.specs.Commands.{Request, Command, Place, Answer, Plain, Batch, Pair}
use Rattle.wire_records.specs.declared.version.Version.{Version}
use Rattle.wire_records.specs.declared.reply.Reply.TheVariants as reply
use Rattle.wire_records.specs.declared.command.BodyFault.{BodyFault}
use Rattle.flow_orders.specs.Outcomes.{Fill, Outcome, BatchRule, Cleared, Skipped}
use Rattle.market_rules.specs.Market.{Market, empty_market}
use Rattle.market_rules.specs.Step.{ServesRead}

-- R: records of any kind; Reads: what each is read as in each version; Rule: which outcomes a batch may have
module _ {R : Type 0} (Reads : Version → R → Result Command BodyFault → Type 0) (Rule : BatchRule) where
  -- one step: a record, read in the market's version, gets this answer and leads from the old market to the new one
  pub record Step (old : Market) (asked : R) (answer : Answer Outcome) (new : Market) : Type 0 where
    pub read : Result Command BodyFault
    pub encoded : Reads old.version asked read
    pub served : ServesRead Rule old read answer new

  -- the entries are steps, one after the other, from the old market to the new one
  abbrev pub Follows : Market → List (Pair R Outcome) → Market → Type 0
  Follows old [] new = new ≡ old
  Follows old (pair ∷ pairs) new = (next : Market) × Step old pair.asked pair.answer next × Follows next pairs new

  -- The entries answer these records, each with one answer, and lead from the start to this market.
  pub record IsAnswered (start : Market) (records : List R) (pairs : List (Pair R Outcome)) (market : Market) : Type 0 where
    pub asked : map (λ (pair : Pair R Outcome). pair.asked) pairs ≡ records
    pub steps : Follows start pairs market

  -- the entries are a journal of these records in a version: they answer them from its empty market on, and lead to this market
  abbrev pub IsJournal : Version → List R → List (Pair R Outcome) → Market → Type 0
  IsJournal version records pairs market = IsAnswered (empty_market version) records pairs market

-- the sum of the rates that are listed under an order's number, in units of its portfolio
abbrev pub filled_in : ℕ → List Fill → ℕ
filled_in number fills = sum_by (λ f. if f.order == number then f.rate else 0) fills

-- what an answer fills of the order with this number, in units of its portfolio
abbrev pub filled_by : ℕ → Answer Outcome → ℕ
filled_by number (Plain plain) = 0
filled_by number (Batch batch (Cleared c)) = filled_in number c.fills
filled_by number (Batch batch (Skipped s)) = 0

-- what all entries together fill of the order with this number, in units of its portfolio
abbrev pub fills_of : {R : Type 0} → ℕ → List (Pair R Outcome) → ℕ
fills_of number pairs = sum_by (λ pair. filled_by number pair.answer) pairs

-- R: records of any kind; Reads: what each is read as
module _ {R : Type 0} (Reads : R → Result Command BodyFault → Type 0) where
  -- a record asks for an order on this request, with a last batch or without one
  abbrev pub AsksFor : Request → R → Type 0
  AsksFor request asked = (last : Option ℕ) × Reads asked (Ok (Place last request))

  -- an entry places the order with this number and this cap
  pub record Places (number cap : ℕ) (pair : Pair R Outcome) : Type 0 where
    pub request : Request
    pub asks : AsksFor request pair.asked
    pub answered : pair.answer ≡ Plain (reply.Order number)
    pub cap_is : request.cap ≡ cap
