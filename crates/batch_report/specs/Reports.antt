-- The text of an entry of a journal. Numbers are plain decimal; prices, gaps and dual values are in grains, limits in ticks.
use Rattle.std.specs.Prelude.{[], ◌≡◌, ℕ, List, length, codes, decimal, pos, slice_index_or, Option, Some, None, Ok}
use Rattle.std.specs.Fmt.{signed_decimal}
use Rattle.std.specs.List.{flat_map, range_with_len}
use Rattle.wire_records.specs.Records.{Record}
use Rattle.wire_records.specs.Commands.{Request, Command, AddAsset, OpenAccount, Deposit, Withdraw, Place, CancelOrder, RunBatch, SetCredit, Answer, Plain, Batch}
use Rattle.wire_records.specs.Versions.{IsReadAs}
use Rattle.wire_records.specs.Refusals.{code_of}
use Rattle.wire_records.specs.declared.reply.Reply.TheVariants.{Done, Asset, Account, Order, Refused}
use Rattle.flow_orders.specs.Outcomes.{Fill, Clearing, Skipping, Outcome, Cleared, Skipped}
use Rattle.weight_rows.specs.Rows.{price_of}
use Rattle.journal_records.specs.Replies.{EncodesAnswer}
use Rattle.market_rules.specs.Market.{Market}
use Rattle.pair_text.specs.Texts.{◌then◌, asset_name, entry_text, last_text}

-- the text of a deposit, a withdrawal or a credit: of money in ticks, and of an asset in whole units
abbrev pub amount_text : List ℕ → List (List ℕ) → ℕ → Option ℕ → ℕ → List ℕ
amount_text word tickers account None ticks = word then codes " account " then decimal account then codes " ticks " then decimal ticks
amount_text word tickers account (Some asset) units =
    word then codes " account " then decimal account then codes " " then asset_name tickers asset then codes " units " then decimal units

-- the text of an order's number and the numbers of its request, limits in ticks
abbrev pub numbers_text : ℕ → Request → List ℕ
numbers_text order r =
    codes "order " then decimal order then codes " account " then decimal r.account then codes " low " then signed_decimal r.low
    then codes " high " then signed_decimal r.high then codes " rate " then decimal r.rate then codes " cap " then decimal r.cap

-- the text of an order under its number
abbrev pub order_text : List (List ℕ) → ℕ → Option ℕ → Request → List ℕ
order_text tickers order last r = numbers_text order r then last_text last then flat_map (entry_text tickers) r.row

-- the line of an asset in a batch that cleared: its price in grains, and its imbalance in units
abbrev pub price_line : List (List ℕ) → Clearing → ℕ → List ℕ
price_line tickers c asset =
    codes "  " then asset_name tickers asset then codes " price " then signed_decimal (price_of c.prices asset)
    then codes " residual " then signed_decimal (slice_index_or c.residuals asset (pos 0)) then codes "\n"

-- the line of an order's rate, in units of its portfolio
abbrev pub rate_line : Fill → List ℕ
rate_line f = codes "  order " then decimal f.order then codes " rate " then decimal f.rate then codes "\n"

-- the lines of a batch that cleared: its own, one for each asset, and one for each order that was live
abbrev pub cleared_lines : List (List ℕ) → ℕ → Clearing → List ℕ
cleared_lines tickers batch c =
    codes "batch " then decimal batch then codes " cleared gap " then signed_decimal c.gap then codes "\n"
    then flat_map (price_line tickers c) (range_with_len 0 (length c.prices)) then flat_map rate_line c.fills

-- the line of a batch that was skipped: the length of its trace, and its dual values at the start and at the end
abbrev pub skipped_line : ℕ → Skipping → List ℕ
skipped_line batch s =
    codes "batch " then decimal batch then codes " skipped moves " then decimal (length s.trace)
    then codes " duals " then signed_decimal s.start_dual then codes " " then signed_decimal s.end_dual then codes "\n"

-- the text of a command that was accepted, in one line without its end, with the number that its order got; a new asset, a new account and a
-- batch are told by what they are answered, so nothing is here, and no valid entry has it
abbrev pub command_text : List (List ℕ) → ℕ → Command → List ℕ
command_text tickers order (AddAsset ticker) = []
command_text tickers order OpenAccount = []
command_text tickers order (Deposit account kind count) = amount_text (codes "deposit") tickers account kind count
command_text tickers order (Withdraw account kind count) = amount_text (codes "withdraw") tickers account kind count
command_text tickers order (Place last request) = order_text tickers order last request
command_text tickers order (CancelOrder account number) = codes "cancel order " then decimal number
command_text tickers order (RunBatch budget) = []
command_text tickers order (SetCredit account kind count) = amount_text (codes "credit") tickers account kind count

-- the line of the command that a record is read as in the version of a market, under its tickers, with the number that its order got, or 0
-- where no order was placed
abbrev pub TellsCommand : Market → Record → ℕ → List ℕ → Type 0
TellsCommand market asked order text = (command : Command) × IsReadAs market.version asked (Ok command) × (text ≡ command_text market.tickers order command then codes "\n")

-- the text of a record and its answer, which follows the entry's number: with the command that the record is read as in
-- the version of the market after the entry, and under that market's tickers
abbrev pub Tells : Market → Record → Answer Outcome → List ℕ → Type 0
Tells market asked (Plain Done) text = TellsCommand market asked 0 text
Tells market asked (Plain (Asset asset)) text = text ≡ codes "asset " then decimal asset then codes " " then asset_name market.tickers asset then codes "\n"
Tells market asked (Plain (Account account)) text = text ≡ codes "account " then decimal account then codes "\n"
Tells market asked (Plain (Order order)) text = TellsCommand market asked order text
Tells market asked (Plain (Refused refusal)) text = text ≡ codes "refused " then decimal (code_of refusal) then codes "\n"
Tells market asked (Batch batch (Cleared c)) text = text ≡ cleared_lines market.tickers batch c
Tells market asked (Batch batch (Skipped s)) text = text ≡ skipped_line batch s

-- The lines of an entry of this number, counted from 1, with the market after it.
pub record IsReport (market : Market) (number : ℕ) (pair : Record × Record) (text : List ℕ) : Type 0 where
  pub answer : Answer Outcome
  pub told : List ℕ
  pub encoded : EncodesAnswer pair.1 answer
  pub tells : Tells market pair.0 answer told
  pub numbered : text ≡ decimal number then codes " " then told
