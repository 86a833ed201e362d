-- What is kept of each order and of each asset, at the prices of the assets.
use Rattle.std.proofs.Common.{◌≡◌, ℕ, ◌+◌, ◌*◌, ◌<◌, ℤ, pos, ◌+ℤ◌, ◌-ℤ◌, ◌*ℤ◌, List, [], ◌∷◌, ◌++◌, length, map, set, take, drop, get_or, refl, ap, sym, ◌∙◌, append-nil, arith}
use Rattle.std.specs.Prelude.{All}
use Rattle.std.proofs.lemmas.List.{take_all, drop_all, length-set, get_or-map, length-map, map_more}
use Rattle.std.proofs.lemmas.List.FromFn.{get_or-map-range_with_len, length-map-range_with_len}
use Rattle.std.proofs.lemmas.List.Elements.{All-set}
use Rattle.list_sums.specs.Sums.{int_sum_by}
use Rattle.weight_rows.specs.Rows.{weight_in, price_of, IsPrice}
use Rattle.weight_rows.proofs.RowLawProofs.{price_follows_one_price, weights_are_small}
use Rattle.weight_rows.proofs.RowLemmas.{price_is_bounded}
use Rattle.demand_curve.specs.Demand.{Terms, floor_rate, ceil_rate, floor_in, ceil_in}
use Rattle.flow_orders.specs.Orders.{Order, terms_of}
use Rattle.flow_orders.specs.Excess.{price_for, low_part_in, high_part_in, low_excess_in, high_excess_in}
use Rattle.flow_orders.specs.WholeUnits.{low_part, high_part, low_excess, high_excess}
use Rattle.excess_bounds.specs.declared.columns.Cell.{Cell}
use Rattle.excess_bounds.specs.Columns.{column_of}
use Rattle.excess_bounds.specs.Quotes.{Quote, quote_at}
use Rattle.excess_bounds.specs.Private.{quote_in, no_quote, low_now, high_now, low_after, high_after, StaysInRange, requoted, CanRequote, IsColumn, IsKept}
use Rattle.excess_bounds.proofs.ColumnSums.{is_light, all_cells, column_length, column_sum}
use Rattle.excess_bounds.proofs.Requoting.{Follows, column_requoted}

-- the column of each asset is listed at its number
pub column_at : (orders : List Order) (prices : List ℤ) (quotes : List Quote) (columns : List (List Cell)) (asset : ℕ) (d : List Cell)
    → IsKept orders prices quotes columns → asset < length prices → get_or columns asset d ≡ column_of orders asset
column_at orders prices quotes columns asset d kept there =
    ap (λ cs. get_or cs asset d) kept.listed ∙ get_or-map-range_with_len (column_of orders) 0 (length prices) asset asset d there (omega arith)

pub columns_count : (orders : List Order) (prices : List ℤ) (quotes : List Quote) (columns : List (List Cell)) → IsKept orders prices quotes columns → length columns ≡ length prices
columns_count orders prices quotes columns kept = ap length kept.listed ∙ length-map-range_with_len (column_of orders) 0 (length prices)

-- the quotes of the first i orders, and of one more
pub quotes_more : (prices : List ℤ) (orders : List Order) (i : ℕ) (o : Order) (q : Quote) (quotes next : List Quote) → i < length orders → o ≡ get_or orders i o
    → quotes ≡ map (quote_at prices) (take i orders) → q ≡ quote_at prices o → next ≡ quotes ++ q ∷ [] → next ≡ map (quote_at prices) (take (i + 1) orders)
quotes_more prices orders i o q quotes next within here before is more =
    more ∙ rw (before, is) (ap (λ x. map (quote_at prices) (take i orders) ++ quote_at prices x ∷ []) here ∙ sym (map_more (quote_at prices) orders i o within))

-- a list written over a whole list
pub written_back : {X : Type 0} (n : ℕ) (new old : List X) → length new ≡ n → length old ≡ n → take n (new ++ drop (length new) old) ≡ new
written_back n new old is was =
    let rest : drop (length new) old ≡ [] = drop_all (length new) old (omega (arith, is, was)) in
    rw (rest, append-nil new) (take_all n new (omega (arith, is)))

none : (n : ℕ) → 0 * n ≡ 0
none n = omega arith

module _ (orders : List Order) (prices : List ℤ) (quotes : List Quote) (columns : List (List Cell)) (kept : IsKept orders prices quotes columns) (asset : ℕ) (there : asset < length prices) where
  quote_is : (k : ℕ) (o : Order) → k < length orders → quote_in quotes k ≡ quote_at prices (get_or orders k o)
  quote_is k o inside = ap (λ qs. quote_in qs k) kept.quoted ∙ get_or-map (quote_at prices) orders k o no_quote inside

  -- each column is one
  pub is_column : IsColumn (column_of orders asset)
  is_column = record {
    few = omega (arith, column_length asset 0 orders, kept.priced.few);
    light = all_cells asset is_light 0 orders (λ k o inside. weights_are_small (get_or orders k o).row asset (kept.priced.each k o inside).row);
  }

  -- the orders of the column have quotes
  pub are_there : All (λ c. c.place < length quotes) (column_of orders asset)
  are_there =
      let count : length quotes ≡ length orders = ap length kept.quoted ∙ length-map orders (quote_at prices) in
      all_cells asset (λ c. c.place < length quotes) 0 orders (λ k o inside. omega (arith, inside, count))

  module _ (price amount : ℤ) (in_range : IsPrice price) (is : amount ≡ price -ℤ price_of prices asset) where
    follows : (k : ℕ) (o : Order) → k < length orders → Follows prices (set prices asset price) asset amount (get_or orders k o)
    follows k d inside =
        let o : Order = get_or orders k d in
        let order = kept.priced.each k d inside in
        record {
          price = rw is (price_follows_one_price o.row prices asset price order.row there);
          range = price_is_bounded o.row (set prices asset price) order.row (All-set IsPrice prices asset price in_range kept.priced.range);
        }

    -- the prices of the column's orders stay in range
    pub stay_in_range : All (StaysInRange quotes amount) (column_of orders asset)
    stay_in_range =
        all_cells asset (StaysInRange quotes amount) 0 orders
        (λ k o inside. let f = follows k o inside in let at : 0 + k ≡ k = omega arith in rw (at, quote_is k o inside) (rw f.price at f.range))

    -- a sum of parts over the column is that over the orders, at the next prices
    sum_is : (part : ℤ → Terms → ℤ → ℤ) → ((t : Terms) (c : ℤ) → part (pos 0) t c ≡ pos 0)
        → int_sum_by (λ c. part c.weight (quote_in quotes c.place).terms ((quote_in quotes c.place).price +ℤ c.weight *ℤ amount)) (column_of orders asset)
        ≡ int_sum_by (λ o. part (weight_in o.row asset) (terms_of o) (price_for (set prices asset price) o)) orders
    sum_is part nothing =
        column_sum asset
        (λ o. part (weight_in o.row asset) (terms_of o) (price_for (set prices asset price) o))
        (λ c. part c.weight (quote_in quotes c.place).terms ((quote_in quotes c.place).price +ℤ c.weight *ℤ amount))
        0 orders
        (λ o none. rw none (nothing (terms_of o) (price_for (set prices asset price) o)))
        (λ k d inside.
        let o : Order = get_or orders k d in
        let at : 0 + k ≡ k = omega arith in
        let f = follows k d inside in
        rw (at, quote_is k d inside) (ap (part (weight_in o.row asset) (terms_of o)) (sym f.price)))

    pub low_is : (parts : ℕ) → int_sum_by (low_after parts quotes amount) (column_of orders asset) ≡ low_excess_in parts orders (set prices asset price) asset
    low_is parts = sum_is (low_part_in parts) (λ t c. ap pos (none (floor_in parts t c)))

    pub high_is : (parts : ℕ) → int_sum_by (high_after parts quotes amount) (column_of orders asset) ≡ high_excess_in parts orders (set prices asset price) asset
    high_is parts = sum_is (high_part_in parts) (λ t c. ap pos (none (ceil_in parts t c)))

    -- what is requoted is kept at the next prices
    pub can_requote : CanRequote quotes (column_of orders asset) amount
    can_requote = rw kept.quoted (column_requoted prices (set prices asset price) asset amount [] orders 0 refl follows).0

    pub stays_kept : IsKept orders (set prices asset price) (requoted quotes (column_of orders asset) amount) columns
    stays_kept =
        let same : length (set prices asset price) ≡ length prices = length-set prices asset price in
        let p = kept.priced in
        record {
          priced = record {
            few = p.few;
            assets = omega (arith, same, p.assets);
            each = p.each;
            range = All-set IsPrice prices asset price in_range p.range;
            priced = rw same p.priced;
          };
          quoted = rw kept.quoted (column_requoted prices (set prices asset price) asset amount [] orders 0 refl follows).1;
          listed = rw same kept.listed;
        }

  pub own_in_range : IsPrice (price_of prices asset)
  own_in_range = kept.priced.range asset (pos 0) there

  -- a sum of parts over the column is that over the orders, at the prices themselves
  sum_now : (part : ℤ → Terms → ℤ → ℤ) → ((t : Terms) (c : ℤ) → part (pos 0) t c ≡ pos 0)
      → int_sum_by (λ c. part c.weight (quote_in quotes c.place).terms (quote_in quotes c.place).price) (column_of orders asset)
      ≡ int_sum_by (λ o. part (weight_in o.row asset) (terms_of o) (price_for prices o)) orders
  sum_now part nothing =
      column_sum asset
      (λ o. part (weight_in o.row asset) (terms_of o) (price_for prices o))
      (λ c. part c.weight (quote_in quotes c.place).terms (quote_in quotes c.place).price)
      0 orders
      (λ o none. rw none (nothing (terms_of o) (price_for prices o)))
      (λ k d inside. let at : 0 + k ≡ k = omega arith in rw (at, quote_is k d inside) refl)

  pub low_is_now : int_sum_by (low_now quotes) (column_of orders asset) ≡ low_excess orders prices asset
  low_is_now = sum_now low_part (λ t c. ap pos (none (floor_rate t c)))

  pub high_is_now : int_sum_by (high_now quotes) (column_of orders asset) ≡ high_excess orders prices asset
  high_is_now = sum_now high_part (λ t c. ap pos (none (ceil_rate t c)))
