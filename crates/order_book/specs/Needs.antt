-- What the orders of a book reserve, account by account.
use Rattle.std.specs.Prelude.{ℕ, ◌*◌, ◌^◌, ◌==◌, if◌then◌else◌, List}
use Rattle.std.specs.List.{sum_by}
use Rattle.weight_rows.specs.declared.entries.Entry.{Entry}
use Rattle.weight_rows.specs.Rows.{weight_in}
use Rattle.demand_curve.specs.Numbers.{or_zero}
use Rattle.flow_orders.specs.Orders.{Order, most_orders, remaining_quantity, sold}
use Rattle.flow_orders.specs.Trades.{Trade}
use Rattle.order_book.specs.Sums.{same_need}
use Rattle.order_book.specs.declared.sums.Need.{Need}
use Rattle.order_book.specs.declared.sums.Need.TheVariants.{Money, Units}

-- what an order reserves of a need to trade so many units of its portfolio, in grains or units; 0 if it is another account's
abbrev pub need_for : ℕ → Need → Order → ℕ
need_for units (Money account) o = if o.account == account then or_zero o.high * units else 0
need_for units (Units account asset) o = if o.account == account then sold (weight_in o.row asset) * units else 0

-- what an order reserves of a need, for its remaining quantity
abbrev pub need_of : Need → Order → ℕ
need_of need o = need_for (remaining_quantity o) need o

-- what all orders reserve of a need together
abbrev pub needed : Need → List Order → ℕ
needed need orders = sum_by (need_of need) orders

-- what orders reserve of a need for what they trade in a batch
abbrev pub needed_for : Need → List Trade → ℕ
needed_for need ts = sum_by (λ t. need_for t.traded need t.order) ts

-- the most that one order reserves, in grains or units
abbrev pub most_for : Need → ℕ
most_for (Money account) = 2 ^ 100
most_for (Units account asset) = 2 ^ 52

-- the most that all live orders reserve together, in grains or units
abbrev pub most_needed : Need → ℕ
most_needed need = most_orders * most_for need

-- what a leg of an account's order reserves of a need to trade so many units of the portfolio
abbrev pub entry_need : ℕ → ℕ → Need → Entry → ℕ
entry_need account units need e = if same_need (Units account e.asset) need then sold e.weight * units else 0

-- what several legs of an account's order reserve of a need
abbrev pub entries_need : ℕ → ℕ → Need → List Entry → ℕ
entries_need account units need entries = sum_by (entry_need account units need) entries

-- how many sums an order may raise: one of money, and one for each of 16 legs
abbrev pub places_per_order : ℕ
places_per_order = 17
