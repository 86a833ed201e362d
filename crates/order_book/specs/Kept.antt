-- The book that the fields of the code's `Book` hold.
use Rattle.std.specs.Prelude.{◌≡◌, ◌-◌, ◌/◌, ◌≤◌, min, vec_len, vec_capacity, List, length}
use Rattle.indexmap.specs.IndexMap.{spare}
use Rattle.indexmap.specs.IndexSet.{spare as set_spare}
use Rattle.flow_orders.specs.Orders.{Order}
use Rattle.order_book.specs.declared.sums.Need.{Need}
use Rattle.order_book.specs.declared.book.Book.TheInside.{Inside}
use Rattle.order_book.specs.Sums.{Table, sum_in}
use Rattle.order_book.specs.Needs.{needed, places_per_order}
use Rattle.order_book.specs.Book.{Book, AreLive}
use Rattle.order_book.specs.Gaps.{live_in, AreGaps}

-- the live orders among the slots
abbrev pub listed : Inside → List Order
listed b = live_in b.gaps b.slots.items

-- the book that these fields hold: the live orders, and for how many more the slots, the set of gaps and the sums have room
abbrev pub book_in : Inside → Book
book_in b = record {
  orders = listed b;
  room = min (min (vec_capacity b.slots - vec_len b.slots) (set_spare b.gaps - length (listed b))) (spare b.sums.table / places_per_order);
}

-- the sums are what the orders reserve
abbrev pub SumsAre : Table → List Order → Type 0
SumsAre table orders = (need : Need) → sum_in table need ≡ needed need orders

-- the fields hold a book: slots and gaps, room for a gap of each live order, and the sums of what the live orders reserve
pub record IsKept (b : Inside) : Type 0 where
  pub gaps : AreGaps b.slots.items b.gaps
  pub live : AreLive (listed b)
  pub enough : length (listed b) ≤ set_spare b.gaps
  pub sums : SumsAre b.sums.table (listed b)
