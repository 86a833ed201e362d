-- Definitions for private functions: what a cell's order adds to an excess once the price of the cell's asset is a grain higher or lower.
use Rattle.std.specs.Prelude.{ℕ, ℤ, pos, ◌+ℤ◌, ◌*ℤ◌, List, slice_index_or}
use Rattle.flow_orders.specs.Excess.{low_part_in, high_part_in}
use Rattle.excess_bounds.specs.declared.columns.Cell.{Cell}
use Rattle.excess_bounds.specs.Quotes.{Quote}
use Rattle.even_prices.specs.Even.{even_parts}

-- the quote of the order at a place
abbrev pub quote_in : List Quote → ℕ → Quote
quote_in quotes place = slice_index_or quotes place (record { terms = record { low = pos 0; high = pos 0; rate = 0; room = 0 }; price = pos 0 })

-- what a cell's order adds to the low excess, in parts, once the asset's price is `grain` grains higher
abbrev pub low_beside : List Quote → ℤ → Cell → ℤ
low_beside quotes grain c = let q = quote_in quotes c.place in low_part_in even_parts c.weight q.terms (q.price +ℤ c.weight *ℤ grain)

-- what a cell's order adds to the high excess, in parts, once the asset's price is `grain` grains higher
abbrev pub high_beside : List Quote → ℤ → Cell → ℤ
high_beside quotes grain c = let q = quote_in quotes c.place in high_part_in even_parts c.weight q.terms (q.price +ℤ c.weight *ℤ grain)
