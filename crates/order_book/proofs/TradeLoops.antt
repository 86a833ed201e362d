-- A pass over the trades of a batch.
use Rattle.std.proofs.Common.{◌≡◌, ℕ, ◌+◌, ◌<◌, ◌≤◌, List, take, length, get_or, sym, ap, ◌∙◌, subst, arith}
use Rattle.std.specs.Prelude.{All}
use Rattle.std.proofs.lemmas.List.{take_all}
use Rattle.std.proofs.lemmas.List.Sums.{sum_by_more, sum_by-take-le}
use Rattle.indexmap.specs.IndexMap.{spare}
use Rattle.flow_orders.specs.Orders.{Order}
use Rattle.flow_orders.specs.Trades.{Trade, trades}
use Rattle.order_book.specs.declared.sums.Need.{Need}
use Rattle.order_book.specs.Sums.{Table, sum_in}
use Rattle.order_book.specs.Needs.{need_for, needed_for}
use Rattle.order_book.proofs.Traded.{length-trades, get_or-trades}

-- the sums are lowered by what the first i trades need
pub record IsLoweredTo (ts : List Trade) (old new : Table) (i : ℕ) : Type 0 where
  pub sums : (need : Need) → sum_in new need + needed_for need (take i ts) ≡ sum_in old need
  pub room : spare old ≤ spare new

-- trade i is that of this order and rate
pub record IsTurn (orders : List Order) (rates : List ℕ) (i : ℕ) (o : Order) (x : ℕ) : Type 0 where
  pub count : length rates ≡ length orders
  pub inside : i < length orders
  pub order : o ≡ get_or orders i o
  pub rate : x ≡ get_or rates i x

module _ (orders : List Order) (rates : List ℕ) (i : ℕ) (o : Order) (x : ℕ) (turn : IsTurn orders rates i o x) where
  abbrev here : Trade
  here = record { order = o; traded = x }

  trade_at : get_or (trades orders rates) i here ≡ here
  trade_at =
      get_or-trades orders rates i here o x turn.count turn.inside ∙ ap (λ (e : Order). record { order = e; traded = get_or rates i x }) (sym turn.order)
      ∙ ap (λ (y : ℕ). record { order = o; traded = y }) (sym turn.rate)

  inside_trades : i < length (trades orders rates)
  inside_trades = omega (arith, length-trades orders rates turn.count, turn.inside)

  -- what holds of each trade holds of trade i
  pub at_turn : (P : Trade → Type 0) → All P (trades orders rates) → P (record { order = o; traded = x })
  at_turn P all = subst P trade_at (all i here inside_trades)

  one_more : (need : Need) → needed_for need (take (i + 1) (trades orders rates)) ≡ needed_for need (take i (trades orders rates)) + need_for x need o
  one_more need =
      sum_by_more (λ (t : Trade). need_for t.traded need t.order) (trades orders rates) i here inside_trades
      ∙ ap (λ (t : Trade). needed_for need (take i (trades orders rates)) + need_for t.traded need t.order) trade_at

  -- what trade i needs is in the sums
  pub is_there : (old mid : Table) (need : Need) → needed_for need (trades orders rates) ≤ sum_in old need → IsLoweredTo (trades orders rates) old mid i → need_for x need o ≤ sum_in mid need
  is_there old mid need all before =
      omega (arith, all, before.sums need, one_more need, sum_by-take-le (λ (t : Trade). need_for t.traded need t.order) (trades orders rates) (i + 1))

  -- the sums after one trade more
  pub IsLoweredTo-more : (old mid new : Table) (j : ℕ) → j ≡ i + 1 → IsLoweredTo (trades orders rates) old mid i
      → ((need : Need) → sum_in new need + need_for x need o ≡ sum_in mid need) → spare mid ≤ spare new → IsLoweredTo (trades orders rates) old new j
  IsLoweredTo-more old mid new j next before lowered room = rw next (record {
    sums = λ need. omega (arith, before.sums need, lowered need, one_more need);
    room = omega (arith, before.room, room);
  })

-- the sums after all trades
pub IsLoweredTo-all : (ts : List Trade) (old new : Table) (i : ℕ) → length ts ≤ i → IsLoweredTo ts old new i → (need : Need) → sum_in new need + needed_for need ts ≡ sum_in old need
IsLoweredTo-all ts old new i all before need =
    omega (arith, before.sums need, ap (needed_for need) (take_all i ts all))
