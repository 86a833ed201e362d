-- Definitions for private functions: what is kept of each order and of each column.
use Rattle.std.specs.Prelude.{◌≡◌, ℕ, ◌*◌, ◌^◌, ◌<◌, ◌≤◌, ℤ, pos, ◌+ℤ◌, ◌*ℤ◌, unsigned_abs, List, [], ◌∷◌, ◌++◌, length, map, slice_index_or, slice_set, All}
use Rattle.std.specs.List.{range_with_len, sum_by}
use Rattle.std.specs.Int.{div_ceil}
use Rattle.weight_rows.specs.declared.entries.Entry.{Entry}
use Rattle.weight_rows.specs.Rows.{most_weight}
use Rattle.flow_orders.specs.Orders.{Order, most_orders}
use Rattle.flow_orders.specs.Excess.{low_part_in, high_part_in}
use Rattle.flow_orders.specs.WholeUnits.{low_part, high_part}
use Rattle.excess_bounds.specs.declared.columns.Cell.{Cell}
use Rattle.excess_bounds.specs.Workspace.{ArePriced}
use Rattle.excess_bounds.specs.Quotes.{Quote, quote_at}
use Rattle.excess_bounds.specs.Columns.{column_of}

-- a default quote, for places without an order
abbrev pub no_quote : Quote
no_quote = record { terms = record { low = pos 0; high = pos 0; rate = 0; room = 0 }; price = pos 0 }

-- the quote of the order at a place
abbrev pub quote_in : List Quote → ℕ → Quote
quote_in quotes place = slice_index_or quotes place no_quote

-- what a cell's order adds to the low excess of the cell's asset, in units
abbrev pub low_now : List Quote → Cell → ℤ
low_now quotes c = let q = quote_in quotes c.place in low_part c.weight q.terms q.price

-- what a cell's order adds to the high excess of the cell's asset, in units
abbrev pub high_now : List Quote → Cell → ℤ
high_now quotes c = let q = quote_in quotes c.place in high_part c.weight q.terms q.price

-- what a cell's order adds to the low excess in parts of a unit, after the asset's price has moved by an amount
abbrev pub low_after : ℕ → List Quote → ℤ → Cell → ℤ
low_after parts quotes amount c = let q = quote_in quotes c.place in low_part_in parts c.weight q.terms (q.price +ℤ c.weight *ℤ amount)

-- what a cell's order adds to the high excess in parts of a unit, after the asset's price has moved by an amount
abbrev pub high_after : ℕ → List Quote → ℤ → Cell → ℤ
high_after parts quotes amount c = let q = quote_in quotes c.place in high_part_in parts c.weight q.terms (q.price +ℤ c.weight *ℤ amount)

-- the price of the portfolio of a cell's order is still in range after the asset's price has moved by an amount
abbrev pub StaysInRange : List Quote → ℤ → Cell → Type 0
StaysInRange quotes amount c = unsigned_abs ((quote_in quotes c.place).price +ℤ c.weight *ℤ amount) ≤ 2 ^ 78

-- the quotes after the price of a column's asset has moved by an amount
abbrev pub requoted : List Quote → List Cell → ℤ → List Quote
requoted quotes [] amount = quotes
requoted quotes (c ∷ cells) amount =
    let q = quote_in quotes c.place in
    requoted (slice_set quotes c.place (record { terms = q.terms; price = q.price +ℤ c.weight *ℤ amount })) cells amount

-- each order of a column has a quote when it is requoted, and its price stays in range
abbrev pub CanRequote : List Quote → List Cell → ℤ → Type 0
CanRequote quotes [] amount = Unit {0}
CanRequote quotes (c ∷ cells) amount =
    let q = quote_in quotes c.place in
    (c.place < length quotes) × StaysInRange quotes amount c
    × CanRequote (slice_set quotes c.place (record { terms = q.terms; price = q.price +ℤ c.weight *ℤ amount })) cells amount

-- a column: at most 16,384 cells, each of a weight of at most 4,096
pub record IsColumn (cells : List Cell) : Type 0 where
  pub few : length cells ≤ most_orders
  pub light : All (λ c. unsigned_abs c.weight ≤ most_weight) cells

-- the columns after each leg of an order at a place has added its cell
abbrev pub listed : ℕ → List Entry → List (List Cell) → List (List Cell)
listed place [] columns = columns
listed place (e ∷ row) columns =
    listed place row (slice_set columns e.asset (slice_index_or columns e.asset [] ++ record { place = place; weight = e.weight } ∷ []))

-- the rounding bound of a column: the sum of its absolute weights
abbrev pub spread_in : List Cell → ℕ
spread_in cells = sum_by (λ c. unsigned_abs c.weight) cells

-- the slope bound of a column: the sum of its squared weights, divided by 256 and rounded up
unfoldable pub steepness_in : List Cell → ℕ
steepness_in cells = div_ceil (sum_by (λ c. unsigned_abs c.weight * unsigned_abs c.weight) cells) 256

-- the sums that are kept of a column are right, and the column is short enough for them
pub record IsSummed (cells : List Cell) (spread squares : ℕ) : Type 0 where
  pub short : length cells ≤ 2 ^ 20
  pub spread_is : spread ≡ spread_in cells
  pub squares_is : squares ≡ sum_by (λ c. unsigned_abs c.weight * unsigned_abs c.weight) cells
  pub spread_most : spread ≤ length cells * 2 ^ 12
  pub squares_most : squares ≤ length cells * 2 ^ 24

-- prices, quotes and columns are kept consistent: a quote of each order at the prices, and a column for each asset
pub record IsKept (orders : List Order) (prices : List ℤ) (quotes : List Quote) (columns : List (List Cell)) : Type 0 where
  pub priced : ArePriced orders prices
  pub quoted : quotes ≡ map (quote_at prices) orders
  pub listed : columns ≡ map (column_of orders) (range_with_len 0 (length prices))
