-- The members of answers, and the line of an answer. An answer is a JSON object without blanks. Its numbers are whole and in full; those in grains are
-- texts.
use Rattle.std.specs.Prelude.{ℕ, ℤ, pos, List, [], length, codes, decimal, slice_index_or, Option, Some, None}
use Rattle.std.specs.Fmt.{signed_decimal}
use Rattle.weight_rows.specs.declared.entries.Entry.{Entry}
use Rattle.weight_rows.specs.Rows.{price_of}
use Rattle.wire_records.specs.Commands.{Request, Command, AddAsset, OpenAccount, Deposit, Withdraw, Place, CancelOrder, RunBatch, SetCredit, Answer, Plain, Batch}
use Rattle.wire_records.specs.declared.reply.Reply.TheVariants.{Done, Asset, Account, Order, Refused}
use Rattle.wire_records.specs.declared.reply.Refusal.{Refusal}
use Rattle.wire_records.specs.declared.reply.Refusal.TheVariants.{UnknownTag, BadBody, AssetLimit, TickerTaken, BadTicker, AccountLimit, NoAccount, NoAsset, ZeroAmount, TotalLimit, NotFree, BadLimits, BadRate, BadCap, BadRow, OrderLimit, NoOrder, BadBudget, BatchLimit, BadLast, CreditInUse, CreditLimit}
use Rattle.wire_records.specs.Versions.{number_of}
use Rattle.wire_records.specs.declared.version.Version.{Version}
use Rattle.flow_orders.specs.Outcomes.{Clearing, Outcome, Cleared, Skipped}
use Rattle.flow_orders.specs.Residuals.{residual_in}
use Rattle.pair_text.specs.Texts.{◌then◌}
use Rattle.answer_text.specs.declared.fills.FillCost.{FillCost}
use Rattle.answer_text.specs.declared.header.Recipient.{Recipient}
use Rattle.answer_text.specs.declared.header.Recipient.TheVariants.{Operator, Desk, All}
use Rattle.answer_text.specs.declared.header.Heading.{Heading}
use Rattle.answer_text.specs.Texts.{quoted, unpadded, ticker_text, listed}

-- ---- commands

-- the members of a deposit, a withdrawal or a credit: of money in ticks, and of an asset in units
abbrev pub amount_members : List ℕ → List (List ℕ) → ℕ → Option ℕ → ℕ → List ℕ
amount_members word tickers account None ticks =
    codes "\"do\":\"" then word then codes "\",\"account\":" then decimal account then codes ",\"ticks\":" then decimal ticks
amount_members word tickers account (Some asset) units =
    codes "\"do\":\"" then word then codes "\",\"account\":" then decimal account then codes ",\"asset\":" then ticker_text tickers asset then codes ",\"units\":" then decimal units

-- the member of an order's last batch, if it has one
abbrev pub last_member : Option ℕ → List ℕ
last_member None = []
last_member (Some last) = codes "\"last\":" then decimal last then codes ","

-- the member of a leg of an order: its asset's ticker and its weight
abbrev pub leg_member : List (List ℕ) → List Entry → ℕ → List ℕ
leg_member tickers row place =
    ticker_text tickers (slice_index_or row place (record { asset = 0; weight = pos 0 })).asset then codes ":"
    then signed_decimal (slice_index_or row place (record { asset = 0; weight = pos 0 })).weight

-- the members of the terms of an order, limits in ticks
abbrev pub terms_members : List (List ℕ) → Request → List ℕ
terms_members tickers r =
    codes "\"low\":" then signed_decimal r.low then codes ",\"high\":" then signed_decimal r.high then codes ",\"rate\":" then decimal r.rate then codes ",\"cap\":" then decimal r.cap
    then codes ",\"weights\":{" then listed (leg_member tickers r.row) (length r.row) then codes "}"

-- the members of a placement
abbrev pub place_members : List (List ℕ) → Option ℕ → Request → List ℕ
place_members tickers last r = codes "\"do\":\"place\"," then last_member last then codes "\"account\":" then decimal r.account then codes "," then terms_members tickers r

-- the members of a command, which ask for it
abbrev pub command_members : List (List ℕ) → Command → List ℕ
command_members tickers (AddAsset ticker) = codes "\"do\":\"asset\",\"ticker\":" then quoted (unpadded ticker)
command_members tickers OpenAccount = codes "\"do\":\"account\""
command_members tickers (Deposit account kind count) = amount_members (codes "deposit") tickers account kind count
command_members tickers (Withdraw account kind count) = amount_members (codes "withdraw") tickers account kind count
command_members tickers (Place last request) = place_members tickers last request
command_members tickers (CancelOrder account order) = codes "\"do\":\"cancel\",\"account\":" then decimal account then codes ",\"order\":" then decimal order
command_members tickers (RunBatch budget) = codes "\"do\":\"batch\",\"budget\":" then decimal budget
command_members tickers (SetCredit account kind count) = amount_members (codes "credit") tickers account kind count

-- ---- what came of a command

-- the name of a refusal
abbrev pub refusal_name : Refusal → List ℕ
refusal_name UnknownTag = codes "UnknownTag"
refusal_name BadBody = codes "BadBody"
refusal_name AssetLimit = codes "AssetLimit"
refusal_name TickerTaken = codes "TickerTaken"
refusal_name BadTicker = codes "BadTicker"
refusal_name AccountLimit = codes "AccountLimit"
refusal_name NoAccount = codes "NoAccount"
refusal_name NoAsset = codes "NoAsset"
refusal_name ZeroAmount = codes "ZeroAmount"
refusal_name TotalLimit = codes "TotalLimit"
refusal_name NotFree = codes "NotFree"
refusal_name BadLimits = codes "BadLimits"
refusal_name BadRate = codes "BadRate"
refusal_name BadCap = codes "BadCap"
refusal_name BadRow = codes "BadRow"
refusal_name OrderLimit = codes "OrderLimit"
refusal_name NoOrder = codes "NoOrder"
refusal_name BadBudget = codes "BadBudget"
refusal_name BatchLimit = codes "BatchLimit"
refusal_name BadLast = codes "BadLast"
refusal_name CreditInUse = codes "CreditInUse"
refusal_name CreditLimit = codes "CreditLimit"

-- the member of an asset's imbalance in a batch that cleared, in units
abbrev pub residual_member : List (List ℕ) → Clearing → ℕ → List ℕ
residual_member tickers c asset = ticker_text tickers asset then codes ":" then signed_decimal (residual_in c.residuals asset)

-- the members of what came of a command, which follow its own: the number of the account or order, the refusal, or the batch's outcome, with its gap in
-- grains
abbrev pub reply_members : List (List ℕ) → Answer Outcome → List ℕ
reply_members tickers (Plain Done) = []
reply_members tickers (Plain (Asset asset)) = []
reply_members tickers (Plain (Account account)) = codes ",\"account\":" then decimal account
reply_members tickers (Plain (Order order)) = codes ",\"order\":" then decimal order
reply_members tickers (Plain (Refused refusal)) = codes ",\"refused\":\"" then refusal_name refusal then codes "\""
reply_members tickers (Batch batch (Cleared c)) =
    codes ",\"batch\":" then decimal batch then codes ",\"cleared\":true,\"gap\":\"" then signed_decimal c.gap
    then codes "\",\"residuals\":{" then listed (residual_member tickers c) (length c.residuals) then codes "}"
reply_members tickers (Batch batch (Skipped s)) = codes ",\"batch\":" then decimal batch then codes ",\"cleared\":false,\"moves\":" then decimal (length s.trace)

-- the members of a command and of what came of it
abbrev pub echo_members : List (List ℕ) → Command → Answer Outcome → List ℕ
echo_members tickers command answer = command_members tickers command then reply_members tickers answer

-- the member of an asset's price, in grains
abbrev pub price_member : List (List ℕ) → List ℤ → ℕ → List ℕ
price_member tickers prices asset = ticker_text tickers asset then codes ":\"" then signed_decimal (price_of prices asset) then codes "\""

-- the members of a batch that all are told: its number, whether it cleared, and the prices
abbrev pub batch_members : List (List ℕ) → ℕ → Outcome → List ℕ
batch_members tickers batch (Cleared c) =
    codes "\"do\":\"batch\",\"batch\":" then decimal batch then codes ",\"cleared\":true,\"prices\":{" then listed (price_member tickers c.prices) (length c.prices) then codes "}"
batch_members tickers batch (Skipped s) = codes "\"do\":\"batch\",\"batch\":" then decimal batch then codes ",\"cleared\":false"

-- an order's rate in a batch that cleared, and what it costs at the prices, in grains: nothing at a place that has none
abbrev pub fill_at : List FillCost → ℕ → FillCost
fill_at fills place = slice_index_or fills place (record { order = 0; rate = 0; cost = pos 0 })

-- the item of an order's rate
abbrev pub fill_item : List FillCost → ℕ → List ℕ
fill_item fills place =
    codes "{\"order\":" then decimal (fill_at fills place).order then codes ",\"rate\":" then decimal (fill_at fills place).rate
    then codes ",\"cost\":\"" then signed_decimal (fill_at fills place).cost then codes "\"}"

-- the members of a batch that an account is told whose orders were live in it
abbrev pub fills_members : ℕ → List FillCost → List ℕ
fills_members batch fills = codes "\"do\":\"batch\",\"batch\":" then decimal batch then codes ",\"fills\":[" then listed (fill_item fills) (length fills) then codes "]"

-- ---- questions

-- the members that answer what the market is: its version, its number of batches and its prices
abbrev pub market_members : List (List ℕ) → Version → ℕ → List ℤ → List ℕ
market_members tickers version batches prices =
    codes "\"ask\":\"market\",\"version\":" then decimal (number_of version) then codes ",\"batches\":" then decimal batches
    then codes ",\"prices\":{" then listed (price_member tickers prices) (length prices) then codes "}"

-- the member of the exchange's units of an asset
abbrev pub units_member : List (List ℕ) → List ℤ → ℕ → List ℕ
units_member tickers units asset = ticker_text tickers asset then codes ":" then signed_decimal (slice_index_or units asset (pos 0))

-- the members that answer what the exchange holds: its money in grains, and its units of each asset
abbrev pub exchange_members : List (List ℕ) → ℤ → List ℤ → List ℕ
exchange_members tickers money units =
    codes "\"ask\":\"exchange\",\"money\":\"" then signed_decimal money then codes "\",\"units\":{" then listed (units_member tickers units) (length units) then codes "}"

-- ---- the line of an answer

-- the text of a recipient
abbrev pub recipient_text : Recipient → List ℕ
recipient_text Operator = codes "operator"
recipient_text (Desk account) = decimal account
recipient_text All = codes "all"

-- a member before the body, if there is one
abbrev pub number_member : List ℕ → Option ℕ → List ℕ
number_member name None = []
number_member name (Some number) = codes ",\"" then name then codes "\":" then decimal number

-- what is before the members of an answer's body
abbrev pub answer_head : Heading → List ℕ
answer_head h =
    codes "{\"to\":\"" then recipient_text h.to then codes "\",\"number\":" then decimal h.number then number_member (codes "line") h.line
    then number_member (codes "entry") h.entry then codes ","

-- the line of an answer with these members in its body
abbrev pub answer_line : Heading → List ℕ → List ℕ
answer_line h members = answer_head h then members then codes "}\n"
