-- The orders that are drawn, one after the other, each at the state that the one before it leaves.
use Rattle.std.specs.Prelude.{ℕ, zero, suc, ◌+◌, ◌-◌, ◌*◌, ◌%◌, ◌==◌, if◌then◌else◌, ℤ, pos, neg_ℤ, ◌+ℤ◌, ◌-ℤ◌, ◌*ℤ◌, List, [], ◌∷◌, None}
use Rattle.list_sums.specs.Sums.{int_sum_by}
use Rattle.weight_rows.specs.declared.entries.Entry.{Entry}
use Rattle.wire_records.specs.Commands.{Request, Command, Place}
use Rattle.sample_market.specs.Draws.{next_state, drawn, state_after}

-- a weight, by two draws: an absolute weight of 1 to 4, and then whether it is sold: if the second draw is 1
unfoldable pub drawn_weight : ℕ → ℤ
drawn_weight x = if drawn 2 (next_state x) == 1 then neg_ℤ (pos (1 + drawn 4 x)) else pos (1 + drawn 4 x)

-- the legs of so many consecutive assets, from this one on
abbrev pub drawn_entries : ℕ → ℕ → ℕ → List Entry
drawn_entries zero asset x = []
drawn_entries (suc n) asset x = (record { asset = asset; weight = drawn_weight x }) ∷ drawn_entries n (asset + 1) (state_after 2 x)

-- how many legs an order has: 1 to 3
unfoldable pub drawn_count : ℕ → ℕ
drawn_count x = 1 + drawn 3 x

-- the first asset of an order, such that the last is one of the eight too
unfoldable pub drawn_first : ℕ → ℕ
drawn_first x = drawn (9 - drawn_count x) (next_state x)

-- the weight vector of an order
unfoldable pub drawn_row : ℕ → List Entry
drawn_row x = drawn_entries (drawn_count x) (drawn_first x) (state_after 2 x)

-- the state after the draws of the weight vector
unfoldable pub after_row : ℕ → ℕ
after_row x = state_after (2 + 2 * drawn_count x) x

-- the price of a weight vector in ticks, if asset k costs 1,000 * (k + 1) ticks
abbrev pub usual_price : List Entry → ℤ
usual_price row = int_sum_by (λ e. e.weight *ℤ pos (1000 * (e.asset + 1))) row

-- the middle between an order's limits, in ticks: the usual price of its weight vector, or up to 20 ticks off
unfoldable pub drawn_middle : ℕ → ℤ
drawn_middle x = (usual_price (drawn_row x) +ℤ pos (drawn 41 (after_row x))) -ℤ pos 20

-- how far from the middle the limits of an order are, in ticks: 1 to 50
unfoldable pub drawn_half : ℕ → ℕ
drawn_half x = 1 + drawn 50 (state_after 1 (after_row x))

-- the rate of an order: 1 to 1,000 units
unfoldable pub drawn_rate : ℕ → ℕ
drawn_rate x = 1 + drawn 1000 (state_after 2 (after_row x))

-- in how many batches an order may trade its full rate: 1 to 20
unfoldable pub drawn_turns : ℕ → ℕ
drawn_turns x = 1 + drawn 20 (state_after 3 (after_row x))

-- the order at a place, counted from 0, that is drawn at a state
abbrev pub drawn_order : ℕ → ℕ → Request
drawn_order place x = record {
  account = 1 + place % 64;
  low = drawn_middle x -ℤ pos (drawn_half x);
  high = drawn_middle x +ℤ pos (drawn_half x);
  rate = drawn_rate x;
  cap = drawn_rate x * drawn_turns x;
  row = drawn_row x;
}

-- the state after the draws of an order
unfoldable pub after_order : ℕ → ℕ
after_order x = state_after 4 (after_row x)

-- the commands that place so many orders, the first at this place
abbrev pub drawn_orders : ℕ → ℕ → ℕ → List Command
drawn_orders zero place x = []
drawn_orders (suc n) place x = Place None (drawn_order place x) ∷ drawn_orders n (place + 1) (after_order x)
