-- What entries deposit and withdraw, and that a market holds it.
use Rattle.std.specs.Prelude.{◌≡◌, ℕ, ◌==◌, if◌then◌else◌, ℤ, pos, neg_ℤ, ◌+ℤ◌, ◌-ℤ◌, List, [], ◌∷◌, Option, Some, None, Result, Ok, Err}
use Rattle.list_sums.specs.Sums.{int_sum_by}
use Rattle.wire_records.specs.Commands.{Command, AddAsset, OpenAccount, Deposit, Withdraw, Place, CancelOrder, RunBatch, SetCredit, Answer, Plain, Batch, Pair}
use Rattle.wire_records.specs.declared.version.Version.{Version}
use Rattle.wire_records.specs.declared.reply.Reply.TheVariants.{Done, Refused}
use Rattle.wire_records.specs.declared.reply.Reply.TheVariants as reply
use Rattle.wire_records.specs.declared.command.BodyFault.{BodyFault}
use Rattle.flow_accounts.specs.Balances.{IsKind, value_of}
use Rattle.flow_orders.specs.Outcomes.{Outcome}
use Rattle.fill_caps.specs.Covers.{CoversNeeds}
use Rattle.market_rules.specs.Market.{Market, HoldsTotals, held_balance}

-- what an accepted command deposits, less what it withdraws, in grains or in units, and of which kind
abbrev pub brings : Command → List (Option ℕ × ℤ)
brings (Deposit account kind count) = (kind, value_of kind count) ∷ []
brings (Withdraw account kind count) = (kind, neg_ℤ (value_of kind count)) ∷ []
brings (AddAsset ticker) = []
brings OpenAccount = []
brings (Place last request) = []
brings (CancelOrder account number) = []
brings (RunBatch budget) = []
brings (SetCredit account kind count) = []

-- what is of a kind in one part of what a command brings
abbrev pub part_of : Option ℕ → Option ℕ × ℤ → ℤ
part_of None (None, amount) = amount
part_of None (Some named, amount) = pos 0
part_of (Some asset) (None, amount) = pos 0
part_of (Some asset) (Some named, amount) = if named == asset then amount else pos 0

-- what a command adds to what is held of a kind, if it is accepted
abbrev pub added : Option ℕ → Command → ℤ
added kind command = int_sum_by (part_of kind) (brings command)

-- what an answered command adds: nothing if it is refused
abbrev pub added_by : Option ℕ → Command → Answer Outcome → ℤ
added_by kind command (Plain (Refused refusal)) = pos 0
added_by kind command (Plain Done) = added kind command
added_by kind command (Plain (reply.Asset number)) = added kind command
added_by kind command (Plain (reply.Account number)) = added kind command
added_by kind command (Plain (reply.Order number)) = added kind command
added_by kind command (Batch number outcome) = added kind command

-- what an answered record adds, by what it is read as: nothing if it is no command
abbrev pub added_by_read : Option ℕ → Result Command BodyFault → Answer Outcome → ℤ
added_by_read kind (Ok command) answer = added_by kind command answer
added_by_read kind (Err why) answer = pos 0

-- R: records of any kind; Reads: what each is read as
module _ {R : Type 0} (Reads : R → Result Command BodyFault → Type 0) where
  -- `total` is what the entries add together of a kind
  abbrev pub AddTogether : Option ℕ → List (Pair R Outcome) → ℤ → Type 0
  AddTogether kind [] total = total ≡ pos 0
  AddTogether kind (pair ∷ pairs) total =
      (read : Result Command BodyFault) × (rest : ℤ) × Reads pair.asked read × AddTogether kind pairs rest
      × (total ≡ added_by_read kind read pair.answer +ℤ rest)

-- Reads: what records are read as in each version; start: the market before the first entry, for a journal the empty one of its version
module _ {R : Type 0} (Reads : Version → R → Result Command BodyFault → Type 0) (start : Market) where
  -- In the market each account covers, with its credit, what its live orders need. Accounts and exchange together hold the totals, and more
  -- than in the start by the accepted deposits of the entries less the accepted withdrawals, of money and of each asset.
  pub record HoldsDeposits (pairs : List (Pair R Outcome)) (market : Market) : Type 0 where
    pub covered : CoversNeeds market.balances market.orders
    pub totals : HoldsTotals market
    pub held : (kind : Option ℕ) → IsKind market.balances kind
        → AddTogether (Reads start.version) kind pairs (held_balance market kind -ℤ held_balance start kind)
