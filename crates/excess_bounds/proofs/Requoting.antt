-- The orders of a column are requoted as the price of its asset moves, and no others.
use Rattle.std.proofs.Common.{◌≡◌, ⊎_elim, ℕ, suc, ◌+◌, ◌^◌, ◌≤◌, ◌<◌, ℤ, pos, ◌+ℤ◌, ◌*ℤ◌, List, [], ◌∷◌, ◌++◌, length, map, set, drop, get_or, eqb, refl, ap, ◌∙◌, append_assoc, length-append, arith}
use Rattle.std.specs.Prelude.{unsigned_abs}
use Rattle.std.proofs.Math.IntN.{zero-*ℤ}
use Rattle.std.proofs.lemmas.Int.{ints}
use Rattle.std.proofs.lemmas.Bool.{cases_Bool, eqb-true}
use Rattle.std.proofs.lemmas.List.{get_or_at, set_at, get_or_default, drop_more}
use Rattle.weight_rows.specs.Rows.{weight_in}
use Rattle.flow_orders.specs.Orders.{Order, terms_of}
use Rattle.flow_orders.specs.Excess.{price_for}
use Rattle.excess_bounds.specs.declared.columns.Cell.{Cell}
use Rattle.excess_bounds.specs.Columns.{column_from}
use Rattle.excess_bounds.specs.Quotes.{Quote, quote_at}
use Rattle.excess_bounds.specs.Private.{quote_in, no_quote, requoted, CanRequote}

-- an order's price moves with an asset's price: by its weight times the amount
pub record Follows (prices next : List ℤ) (asset : ℕ) (amount : ℤ) (o : Order) : Type 0 where
  pub price : price_for next o ≡ price_for prices o +ℤ weight_in o.row asset *ℤ amount
  pub range : unsigned_abs (price_for next o) ≤ 2 ^ 78

module _ (amount : ℤ) where
  -- the first order of a column is requoted after the quotes before it
  requote_first : (before rest end : List Quote) (q next : Quote) (place : ℕ) (w : ℤ) (cells : List Cell) → length before ≡ place → unsigned_abs (q.price +ℤ w *ℤ amount) ≤ 2 ^ 78
      → next ≡ record { terms = q.terms; price = q.price +ℤ w *ℤ amount }
      → CanRequote (before ++ next ∷ rest) cells amount × (requoted (before ++ next ∷ rest) cells amount ≡ end)
      → CanRequote (before ++ q ∷ rest) (record { place = place; weight = w } ∷ cells) amount
      × (requoted (before ++ q ∷ rest) (record { place = place; weight = w } ∷ cells) amount ≡ end)
  requote_first before rest end q next place w cells is range at done =
      let here : quote_in (before ++ q ∷ rest) place ≡ q = get_or_at before q rest no_quote place is in
      let there : place < length (before ++ q ∷ rest) = omega (arith, length-append before (q ∷ rest), is) in
      rw here (rw (← at) (rw (set_at before q rest next place is) ((there, range, done.0), done.1)))

  -- equal quotes are requoted alike
  requote_same : (before rest end : List Quote) (q next : Quote) (cells : List Cell) → next ≡ q
      → CanRequote (before ++ next ∷ rest) cells amount × (requoted (before ++ next ∷ rest) cells amount ≡ end)
      → CanRequote (before ++ q ∷ rest) cells amount × (requoted (before ++ q ∷ rest) cells amount ≡ end)
  requote_same before rest end q next cells same done = rw same at done

  -- the next cell of a column, in a loop
  pub requote_more : (quotes end : List Quote) (cells : List Cell) (i : ℕ) (d : Cell) (e next : Quote) → i < length cells
      → next ≡ record { terms = (get_or quotes (get_or cells i d).place e).terms; price = (get_or quotes (get_or cells i d).place e).price +ℤ (get_or cells i d).weight *ℤ amount }
      → (requoted quotes (drop i cells) amount ≡ end) × CanRequote quotes (drop i cells) amount
      → (requoted (set quotes (get_or cells i d).place next) (drop (i + 1) cells) amount ≡ end) × CanRequote (set quotes (get_or cells i d).place next) (drop (i + 1) cells) amount
  requote_more quotes end cells i d e next within is before =
      let now = rw (drop_more cells i d within) at before in
      let inside = now.1.0 in
      rw (is, get_or_default quotes (get_or cells i d).place e no_quote inside) (now.0, now.1.2)

  -- the next order to be requoted has a quote
  pub requote_inside : (quotes : List Quote) (cells : List Cell) (i : ℕ) (d : Cell) → i < length cells → CanRequote quotes (drop i cells) amount → (get_or cells i d).place < length quotes
  requote_inside quotes cells i d within can = (rw (drop_more cells i d within) at can).0

  pub requote_range : (quotes : List Quote) (cells : List Cell) (i : ℕ) (d : Cell) (e : Quote) → i < length cells → CanRequote quotes (drop i cells) amount
      → unsigned_abs ((get_or quotes (get_or cells i d).place e).price +ℤ (get_or cells i d).weight *ℤ amount) ≤ 2 ^ 78
  requote_range quotes cells i d e within can =
      let now = rw (drop_more cells i d within) at can in
      rw (get_or_default quotes (get_or cells i d).place e no_quote now.0) now.1

module _ (prices next : List ℤ) (asset : ℕ) (amount : ℤ) where
  -- an order that doesn't name the asset keeps its price
  unmoved : (o : Order) → Follows prices next asset amount o → unsigned_abs (weight_in o.row asset) ≡ 0 → quote_at next o ≡ quote_at prices o
  unmoved o follows none =
      let weightless : weight_in o.row asset ≡ pos 0 = omega (arith, ints, none) in
      let same : price_for next o ≡ price_for prices o = omega (arith, ints, rw weightless at follows.price, zero-*ℤ amount) in
      ap (λ price. record { terms = terms_of o; price = price }) same

  moved : (o : Order) → Follows prices next asset amount o → quote_at next o ≡ record { terms = terms_of o; price = price_for prices o +ℤ weight_in o.row asset *ℤ amount }
  moved o follows = ap (λ price. record { terms = terms_of o; price = price }) follows.price

  -- after orders that have their next prices, those of a column are requoted one by one
  pub column_requoted : (before : List Quote) (orders : List Order) (place : ℕ) → length before ≡ place
      → ((k : ℕ) (o : Order) → k < length orders → Follows prices next asset amount (get_or orders k o))
      → CanRequote (before ++ map (quote_at prices) orders) (column_from place orders asset) amount
      × (requoted (before ++ map (quote_at prices) orders) (column_from place orders asset) amount ≡ before ++ map (quote_at next) orders)
  column_requoted before [] place is each = (tt, refl)
  column_requoted before (o ∷ orders) place is each =
      let follows : Follows prices next asset amount o = each 0 o (omega arith) in
      let rest = column_requoted (before ++ quote_at next o ∷ []) orders (place + 1) (length-append before (quote_at next o ∷ []) ∙ omega (arith, is)) (λ k d inside. each (suc k) d (omega (arith, inside))) in
      let joined = rw (append_assoc before (quote_at next o ∷ []) (map (quote_at prices) orders), append_assoc before (quote_at next o ∷ []) (map (quote_at next) orders)) at rest in
      ⊎_elim
      (λ none. rw none (requote_same amount before (map (quote_at prices) orders) (before ++ quote_at next o ∷ map (quote_at next) orders) (quote_at prices o) (quote_at next o) (column_from (place + 1) orders asset) (unmoved o follows (eqb-true _ _ none)) joined))
      (λ some.
      let range = rw follows.price at follows.range in
      rw some (requote_first amount before (map (quote_at prices) orders) (before ++ quote_at next o ∷ map (quote_at next) orders) (quote_at prices o) (quote_at next o) place (weight_in o.row asset) (column_from (place + 1) orders asset) is range (moved o follows) joined))
      (cases_Bool (eqb (unsigned_abs (weight_in o.row asset)) 0))
