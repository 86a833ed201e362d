-- The members that answer what an account has.
use Rattle.std.specs.Prelude.{ℕ, ◌^◌, ◌/◌, ◌==◌, if◌then◌else◌, ℤ, pos, negsuc, List, codes, decimal, Option, Some, None}
use Rattle.std.specs.Fmt.{signed_decimal}
use Rattle.std.specs.List.{filter}
use Rattle.wire_records.specs.Commands.{Request}
use Rattle.flow_accounts.specs.Balances.{Balances, asset_count, money_of, units_of, money_credit_of, unit_credit_of}
use Rattle.flow_orders.specs.Orders.{Order, needed_money, needed_units}
use Rattle.pair_text.specs.Texts.{◌then◌}
use Rattle.answer_text.specs.Texts.{ticker_text, listed, separated}
use Rattle.answer_text.specs.Answers.{last_member, terms_members}

-- the member of what an account has of an asset: its units, what its orders reserve of them, and its credit
abbrev pub holding_member : List (List ℕ) → Balances → List Order → ℕ → ℕ → List ℕ
holding_member tickers b orders account asset =
    ticker_text tickers asset then codes ":[" then signed_decimal (units_of b account asset) then codes "," then signed_decimal (needed_units orders account asset)
    then codes "," then decimal (unit_credit_of b account asset) then codes "]"

-- the orders of an account
abbrev pub account_orders : ℕ → List Order → List Order
account_orders account orders = filter (λ o. o.account == account) orders

-- a limit in grains, in ticks
abbrev pub ticks_of : ℤ → ℤ
ticks_of (pos grains) = pos (grains / 2 ^ 32)
ticks_of (negsuc grains) = negsuc (grains / 2 ^ 32)

-- what an order was placed with, its limits in ticks
abbrev pub request_of : Order → Request
request_of o = record { account = o.account; low = ticks_of o.low; high = ticks_of o.high; rate = o.rate; cap = o.cap; row = o.row }

-- the number of an order's last batch, if it has one
abbrev pub last_of : Order → Option ℕ
last_of o = if o.last == 0 then None else Some o.last

-- the text of a live order: the members of its placement, its number, and what is filled of it
abbrev pub order_text : List (List ℕ) → Order → List ℕ
order_text tickers o =
    codes "{" then last_member (last_of o) then terms_members tickers (request_of o) then codes ",\"order\":" then decimal o.number
    then codes ",\"filled\":" then decimal o.filled then codes "}"

-- the members that answer what an account has: its money and what its orders reserve of it, in grains; its credit, in ticks; what it has of each asset;
-- and its live orders
abbrev pub account_members : List (List ℕ) → Balances → List Order → ℕ → List ℕ
account_members tickers b orders account =
    codes "\"ask\":\"account\",\"account\":" then decimal account then codes ",\"money\":\"" then signed_decimal (money_of b account)
    then codes "\",\"reserved\":\"" then signed_decimal (needed_money orders account) then codes "\",\"credit\":" then decimal (money_credit_of b account)
    then codes ",\"units\":{" then listed (holding_member tickers b orders account) (asset_count b)
    then codes "},\"orders\":[" then separated (order_text tickers) (account_orders account orders) then codes "]"
