-- Cancelled orders, which stay among the others as gaps until the gaps are closed.
use Rattle.std.specs.Prelude.{◌≡◌, ℕ, ◌+◌, ◌<◌, ◌==◌, Bool, not, List, length, IsTrue, All, AllPairs}
use Rattle.std.specs.List.{filter, list_any}
use Rattle.std.specs.declared.hash.FoldHasher.{FoldHasher}
use Rattle.std.specs.declared.hash.BuildHasherDefault.{BuildHasherDefault}
use Rattle.indexmap.specs.IndexSet.{IndexSet}
use Rattle.flow_orders.specs.Orders.{Order, IsOrder}
use Rattle.order_book.specs.Book.{IsPlaceOf}

-- the set of the numbers of cancelled orders
abbrev pub GapSet : Type 0
GapSet = IndexSet ℕ (BuildHasherDefault FoldHasher)

-- whether this number is a cancelled order's
abbrev pub is_gap : GapSet → ℕ → Bool
is_gap gaps number = list_any (λ cancelled. number == cancelled) gaps.keys

-- the live ones of these orders: those that weren't cancelled
abbrev pub live_in : GapSet → List Order → List Order
live_in gaps slots = filter (λ o. not (is_gap gaps o.number)) slots

-- slots: live and cancelled orders, each within the limits, by ascending numbers
pub record AreSlots (slots : List Order) : Type 0 where
  pub each : All IsOrder slots
  pub ascending : AllPairs (λ o later. o.number < later.number) slots

-- the gaps are orders among the slots, each counted once
pub record AreGaps (slots : List Order) (gaps : GapSet) : Type 0 where
  pub ordered : AreSlots slots
  pub placed : (number : ℕ) → IsTrue (is_gap gaps number) → (place : ℕ) × IsPlaceOf slots number place
  pub count : length gaps.keys + length (live_in gaps slots) ≡ length slots
