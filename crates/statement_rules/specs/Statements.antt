-- The statement of an account: the text of its view, and its last lines. Money is in grains except where a line says
-- ticks, limits are in ticks, all other amounts in whole units; numbers are plain decimal.
use Rattle.std.specs.Prelude.{◌≡◌, ℕ, ℤ, List, [], ◌∷◌, ◌++◌, length, codes, decimal, if◌then◌else◌, Some, None, Option}
use Rattle.std.specs.Fmt.{signed_decimal}
use Rattle.std.specs.List.{flat_map, range_with_len, sum_by}
use Rattle.wire_records.specs.Commands.{Request, Pair}
use Rattle.wire_records.specs.Records.{Record}
use Rattle.wire_records.specs.declared.version.Version.{Version}
use Rattle.wire_records.specs.Refusals.{code_of}
use Rattle.flow_orders.specs.Orders.{need_of}
use Rattle.flow_accounts.specs.Balances.{IsAccount}
use Rattle.flow_orders.specs.Outcomes.{Outcome, trades_of}
use Rattle.flow_orders.specs.Trades.{Trade, paid}
use Rattle.market_rules.specs.Market.{Market, empty_market}
use Rattle.pair_text.specs.Texts.{◌then◌, asset_name, entry_text, last_text}
use Rattle.statement_rules.specs.Views.{Event, Adds, Opens, Deposits, Withdraws, Credits, Places, Cancels, Refuses, Clears, Skips, Sees, is_there}
use Rattle.statement_rules.specs.Holdings.{Holding, nothing, after, after_all, held_in}

-- the line of a deposit, a withdrawal or a credit: of money in ticks, and of an asset in units
abbrev pub amount_line : List ℕ → List (List ℕ) → Option ℕ → ℕ → List ℕ
amount_line word tickers None ticks = word then codes " ticks " then decimal ticks then codes "\n"
amount_line word tickers (Some asset) units = word then codes " " then asset_name tickers asset then codes " units " then decimal units then codes "\n"

-- the text of an order's number and the numbers of its request, limits in ticks
abbrev pub order_numbers : ℕ → Request → List ℕ
order_numbers number r =
    codes "order " then decimal number then codes " low " then signed_decimal r.low then codes " high " then signed_decimal r.high
    then codes " rate " then decimal r.rate then codes " cap " then decimal r.cap

-- the line of an order that was placed
abbrev pub placed_line : List (List ℕ) → ℕ → Option ℕ → Request → List ℕ
placed_line tickers number last r = order_numbers number r then last_text last then flat_map (entry_text tickers) r.row then codes "\n"

-- the line of an account's own order in a batch that cleared: its rate, and what that costs at the prices, in grains
abbrev pub cost_line : List ℤ → Trade → List ℕ
cost_line prices t =
    codes "  order " then decimal t.order.number then codes " rate " then decimal t.traded
    then codes " cost " then signed_decimal (paid prices t) then codes "\n"

-- the lines of an event, by what the account has before it
abbrev pub event_lines : Holding → Event → List ℕ
event_lines h (Adds ticker) = []
event_lines h (Opens account) = codes "account " then decimal account then codes "\n"
event_lines h (Deposits kind count) = amount_line (codes "deposit") h.tickers kind count
event_lines h (Withdraws kind count) = amount_line (codes "withdraw") h.tickers kind count
event_lines h (Credits kind count) = amount_line (codes "credit") h.tickers kind count
event_lines h (Places number last r) = placed_line h.tickers number last r
event_lines h (Cancels number) = codes "cancel " then decimal number then codes "\n"
event_lines h (Refuses command refusal) = codes "refused " then decimal (code_of refusal) then codes "\n"
event_lines h (Clears batch prices fills) = codes "batch " then decimal batch then codes " cleared\n" then flat_map (cost_line prices) (trades_of h.orders fills)
event_lines h (Skips batch) = codes "batch " then decimal batch then codes " skipped\n"

-- the lines of all events, one after the other
abbrev pub lines_from : Holding → List Event → List ℕ
lines_from h [] = []
lines_from h (event ∷ view) = event_lines h event ++ lines_from (after h event) view

-- the text of a view, from nothing on
abbrev pub view_text : List Event → List ℕ
view_text view = lines_from nothing view

-- what the account's live orders need of a kind, in grains or in units
abbrev pub reserved_balance : Holding → Option ℕ → ℕ
reserved_balance h kind = sum_by (need_of kind) h.orders

-- the last line for an asset: the units that the account has, and those that its live orders need
abbrev pub asset_line : Holding → ℕ → List ℕ
asset_line h asset =
    asset_name h.tickers asset then codes " units " then signed_decimal (h.units asset)
    then codes " reserved " then decimal (reserved_balance h (Some asset)) then codes "\n"

-- the last lines: one for money, in grains, and one for each asset
abbrev pub end_lines : Holding → List ℕ
end_lines h =
    codes "money " then signed_decimal h.money then codes " reserved " then decimal (reserved_balance h None) then codes "\n"
    then flat_map (asset_line h) (range_with_len 0 (length h.tickers))

-- the statement of a view: its text, and the last lines
abbrev pub statement : List Event → List ℕ
statement view = view_text view then end_lines (after_all nothing view)

-- The statement of an account after a valid journal of a version, in whose market the account is there.
pub record IsStatement (account : ℕ) (version : Version) (pairs : List (Pair Record Outcome)) (text : List ℕ) : Type 0 where
  pub view : List Event
  pub market : Market
  pub sees : Sees account (empty_market version) pairs view market
  pub there : IsAccount market.balances account
  pub text_is : text ≡ statement view

-- ---- the statement that begins in a market, for the entries after it

-- the lines that are carried forward from a market: the account's last lines there, or none if it isn't there
abbrev pub carried_lines : ℕ → Market → List ℕ
carried_lines account m = if is_there m account then end_lines (held_in account m) else []

-- the text of a view that begins in a market: the lines that are carried forward, and then those of what the account sees
abbrev pub text_from : ℕ → Market → List Event → List ℕ
text_from account m view = carried_lines account m ++ lines_from (held_in account m) view

-- the statement of a view that begins in a market: its text, and the last lines after the view
abbrev pub statement_from : ℕ → Market → List Event → List ℕ
statement_from account m view = text_from account m view ++ end_lines (after_all (held_in account m) view)

-- The statement of an account that begins in a market, after valid entries that lead to a market in which the account is there.
pub record IsStatementFrom (account : ℕ) (start : Market) (pairs : List (Pair Record Outcome)) (text : List ℕ) : Type 0 where
  pub view : List Event
  pub market : Market
  pub sees : Sees account start pairs view market
  pub there : IsAccount market.balances account
  pub text_is : text ≡ statement_from account start view
