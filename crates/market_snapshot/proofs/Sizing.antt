-- How many bytes a checkpoint has, by its counts and the orders in its first bytes.
use Rattle.std.proofs.Common.{◌≡◌, ◌+◌, ◌-◌, ◌*◌, ◌<◌, ◌≤◌, ℕ, List, [], ◌∷◌, ◌++◌, length, take, drop, length-append, length-drop, sym, ap, ◌∙◌, arith}
use Rattle.std.specs.Prelude.{All}
use Rattle.std.specs.List.{flat_map}
use Rattle.std.proofs.Math.ListN.{drop_of_length-le}
use Rattle.std.proofs.lemmas.List.{drop-append-le, take-append-le}
use Rattle.byte_places.specs.Places.{digits_on, unsigned_at}
use Rattle.flow_accounts.specs.Balances.{account_count}
use Rattle.flow_accounts.specs.Lawful.{most_accounts}
use Rattle.ticker_table.specs.Tickers.{ticker_limit}
use Rattle.flow_orders.specs.Orders.{most_orders}
use Rattle.market_rules.specs.Market.{Market}
use Rattle.market_parts.specs.Parts.{ReadOrder, Parts}
use Rattle.market_snapshot.specs.Checkpoints.{IsCheckpoint}
use Rattle.market_snapshot.specs.Encodings.{order_encoding, parts_of_market}
use Rattle.market_snapshot.specs.Widths.{FitsOrder, FitWidths}
use Rattle.market_snapshot.specs.Layout.{account_size, order_size}
use Rattle.market_snapshot.proofs.Walking.{order_length, stands, StandAhead, none_passed, next_stands, one_passed, HasPrefix, prefix}
use Rattle.market_snapshot.proofs.OneMarket.{fitting, encoded}

-- a number that is complete is read alike, whatever follows
unsigned_more : (size place : ℕ) (bytes more : List ℕ) → place + size ≤ length bytes → unsigned_at size place (bytes ++ more) ≡ unsigned_at size place bytes
unfolding unsigned_at
unsigned_more size place bytes more there =
    ap (digits_on 0) (ap (take size) (drop-append-le place bytes more (omega (arith, there))) ∙ take-append-le size (drop place bytes) more (omega (arith, there, length-drop place bytes)))

-- orders take at least 53 bytes each
orders_least : (orders : List ReadOrder) → 53 * length orders ≤ length (flat_map order_encoding orders)
orders_least [] = omega arith
orders_least (o ∷ orders) = omega (arith, orders_least orders, order_length o, length-append (order_encoding o) (flat_map order_encoding orders))

-- where orders end, by those that are passed
ends_after : (bytes : List ℕ) (first end passed count : ℕ) → StandAhead bytes first end passed count → (orders : List ReadOrder) (rest : List ℕ) → length orders ≡ count → All FitsOrder orders
    → drop first bytes ≡ flat_map order_encoding orders ++ rest → first ≤ length bytes → end ≤ length bytes → first + length (flat_map order_encoding orders) ≡ end + length (flat_map order_encoding (drop passed orders))
unfolding StandAhead
ends_after bytes first end passed count ahead orders rest many fit here from to =
    omega (
      arith,
      from,
      to,
      ap length here,
      ap length (ahead orders rest many fit here),
      length-drop first bytes,
      length-drop end bytes,
      length-append (flat_map order_encoding orders) rest,
      length-append (flat_map order_encoding (drop passed orders)) rest,
    )

-- `StandAhead` for these bytes with whatever follows them
pub StandOn : (bytes : List ℕ) (first end passed count : ℕ) → Type 0
StandOn bytes first end passed count = (more : List ℕ) → StandAhead (bytes ++ more) first end passed count

pub none_passed_on : (bytes : List ℕ) (first count : ℕ) → StandOn bytes first first 0 count
unfolding StandOn
none_passed_on bytes first count more = none_passed (bytes ++ more) first count

-- the size of an order whose numbers are complete
size_more : (bytes more : List ℕ) (end size : ℕ) → size ≡ 53 + 6 * unsigned_at 1 (end + 52) bytes → end + 53 ≤ length bytes → size ≡ order_size end (bytes ++ more)
size_more bytes more end size is there = is ∙ ap (λ n. 53 + 6 * n) (sym (unsigned_more 1 (end + 52) bytes more (omega (arith, there))))

pub one_passed_on : (bytes : List ℕ) (first end passed count size : ℕ) → StandOn bytes first end passed count → passed < count → size ≡ 53 + 6 * unsigned_at 1 (end + 52) bytes → end + 53 ≤ length bytes → StandOn bytes first (end + size) (passed + 1) count
unfolding StandOn
one_passed_on bytes first end passed count size ahead below is there more = one_passed (bytes ++ more) first end passed count size (ahead more) below (size_more bytes more end size is there)

module _ (bytes more rest : List ℕ) (first end passed count : ℕ) (ahead : StandOn bytes first end passed count) (orders : List ReadOrder) (many : length orders ≡ count) (fit : All FitsOrder orders) (here : drop first (bytes ++ more) ≡ flat_map order_encoding orders ++ rest)
    (from : first ≤ length bytes) (to : end ≤ length bytes) where
  total : first + length (flat_map order_encoding orders) ≡ end + length (flat_map order_encoding (drop passed orders))
  unfolding StandOn
  total = ends_after (bytes ++ more) first end passed count (ahead more) orders rest many fit here (omega (arith, from, length-append bytes more)) (omega (arith, to, length-append bytes more))

  -- all orders are passed
  pub all_passed : passed ≡ count → first + length (flat_map order_encoding orders) ≡ end
  all_passed same =
      let none : drop passed orders ≡ [] = drop_of_length-le orders (omega (arith, same, many)) in
      total ∙ ap (λ (os : List ReadOrder). end + length (flat_map order_encoding os)) none ∙ omega arith

  -- the orders that are left take at least 53 bytes each
  pub some_left : end + 53 * (count - passed) ≤ first + length (flat_map order_encoding orders)
  some_left = omega (arith, total, orders_least (drop passed orders), length-drop passed orders, many)

  -- the numbers of the next order are complete
  pub next_left : (size : ℕ) → passed < count → size ≡ 53 + 6 * unsigned_at 1 (end + 52) bytes → end + 53 ≤ length bytes → end + size + 53 * (count - passed - 1) ≤ first + length (flat_map order_encoding orders)
  unfolding StandOn
  next_left size below is there =
      let next = next_stands (bytes ++ more) first end passed count (ahead more) below orders rest many fit here in
      let at = stands next.0 end (bytes ++ more) (flat_map order_encoding (drop (passed + 1) orders) ++ rest) next.1 next.2 in
      let same = size_more bytes more end size is there in
      let on = one_passed (bytes ++ more) first end passed count size (ahead more) below same in
      let whole = ends_after (bytes ++ more) first (end + size) (passed + 1) count on orders rest many fit here (omega (arith, from, length-append bytes more)) (omega (arith, at.whole, same)) in
      omega (arith, whole, orders_least (drop (passed + 1) orders), length-drop (passed + 1) orders, many)

-- a checkpoint that bytes begin with, and what follows them
module _ (bytes : List ℕ) (m : Market) (checkpoint more rest : List ℕ) (is : IsCheckpoint m checkpoint) (e : bytes ++ more ≡ checkpoint ++ rest) where
  abbrev p : Parts
  p = parts_of_market m

  abbrev pub assets_of : ℕ
  assets_of = length m.tickers

  abbrev pub accounts_of : ℕ
  accounts_of = account_count m.balances

  abbrev pub first_of : ℕ
  first_of = 15 + 8 * length m.tickers + account_size (length m.tickers) * account_count m.balances + 48 + 24 * length m.tickers

  fits : FitWidths p
  fits = fitting m checkpoint is

  found : HasPrefix p (bytes ++ more) rest
  found = prefix p (bytes ++ more) rest fits (e ∙ ap (λ z. z ++ rest) (encoded m checkpoint is))

  -- its length
  pub long : length checkpoint ≡ first_of + length (flat_map order_encoding p.orders)
  long = omega (arith, found.whole, ap length e, ap length found.orders, length-drop first_of (bytes ++ more), length-append checkpoint rest, length-append (flat_map order_encoding p.orders) rest)

  pub assets_read : 11 ≤ length bytes → unsigned_at 2 9 bytes ≡ length m.tickers
  assets_read there = sym (unsigned_more 2 9 bytes more (omega (arith, there))) ∙ found.assets

  pub accounts_read : 15 + 8 * length m.tickers ≤ length bytes → unsigned_at 4 (11 + 8 * length m.tickers) bytes ≡ account_count m.balances
  accounts_read there = sym (unsigned_more 4 (11 + 8 * length m.tickers) bytes more (omega (arith, there))) ∙ found.accounts

  abbrev pub count_at : ℕ
  count_at = 15 + 8 * length m.tickers + account_size (length m.tickers) * account_count m.balances + 44 + 24 * length m.tickers

  pub orders_counted : first_of ≤ length bytes → unsigned_at 4 count_at bytes ≡ length p.orders
  orders_counted there = sym (unsigned_more 4 count_at bytes more (omega (arith, there))) ∙ found.count

  pub few_assets : length m.tickers ≤ ticker_limit
  few_assets = omega (arith, is.consistent.tickers.few)

  pub few_accounts : account_count m.balances ≤ most_accounts
  few_accounts = is.consistent.few_accounts

  pub few_orders : length p.orders ≤ most_orders
  few_orders = fits.few

  -- the counts, read one after the other
  module _ (assets : ℕ) (eleven : 11 ≤ length bytes) (read : assets ≡ unsigned_at 2 9 bytes) where
    pub assets_are : assets ≡ length m.tickers
    assets_are = read ∙ assets_read eleven

    module _ (accounts : ℕ) (there : 15 + 8 * assets ≤ length bytes) (stated : accounts ≡ unsigned_at 4 (11 + 8 * assets) bytes) where
      pub accounts_are : accounts ≡ account_count m.balances
      accounts_are = stated ∙ ap (λ n. unsigned_at 4 (11 + 8 * n) bytes) assets_are ∙ accounts_read (omega (arith, there, assets_are))

      pub sizes_are : (size : ℕ) → size ≡ account_size assets → size * accounts ≡ account_size (length m.tickers) * account_count m.balances
      sizes_are size is = ap (λ s. s * accounts) (is ∙ ap account_size assets_are) ∙ ap (λ n. account_size (length m.tickers) * n) accounts_are

  -- the place where its orders end is its length
  pub ends : (n : ℕ) → ((orders : List ReadOrder) (following tail : List ℕ) → length orders ≡ length p.orders → All FitsOrder orders → drop first_of (bytes ++ following) ≡ flat_map order_encoding orders ++ tail
      → (n ≤ first_of + length (flat_map order_encoding orders)) × (n ≤ length bytes → first_of + length (flat_map order_encoding orders) ≡ n))
      → (n ≤ length checkpoint) × (n ≤ length bytes → length checkpoint ≡ n)
  ends n so =
      let same : length p.orders ≡ length p.orders = omega arith in
      let at = so p.orders more rest same fits.orders found.orders in
      (omega (arith, at.0, long), λ there. long ∙ at.1 there)
