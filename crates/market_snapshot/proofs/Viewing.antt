-- What the view sees of all the bytes.
use Rattle.std.proofs.Common.{◌≡◌, ◌+◌, ◌*◌, ◌≤◌, ◌<◌, ℕ, List, ◌++◌, length, take, drop, sym, ap, ◌∙◌, arith}
use Rattle.std.specs.List.{flat_map}
use Rattle.std.proofs.lemmas.List.{take-append-drop, length-take-le}
use Rattle.byte_places.specs.Places.{unsigned_at}
use Rattle.flow_accounts.specs.Balances.{account_count}
use Rattle.flow_orders.specs.Orders.{most_orders}
use Rattle.market_parts.specs.Parts.{Parts}
use Rattle.market_snapshot.specs.declared.layout.Layout.{Layout}
use Rattle.market_snapshot.specs.declared.reading.SnapshotFault.{SnapshotFault}
use Rattle.market_snapshot.specs.declared.reading.SnapshotFault.TheVariants.{NotSound, Memory}
use Rattle.market_snapshot.specs.Answers.{WhereNotSound}
use Rattle.market_snapshot.specs.Encodings.{order_encoding}
use Rattle.market_snapshot.specs.Layout.{account_size, count_place, first_place, IsLayout, BeginsWithNoParts, HasNoOrders}
use Rattle.market_snapshot.proofs.Walking.{HasPrefix, prefix}

-- the bytes begin with parts: the places of the number of orders and of the orders
record StandsThere (p : Parts) (l : Layout) (bytes rest : List ℕ) : Type 0 where
  count : unsigned_at 4 (count_place l) bytes ≡ length p.orders
  orders : drop (first_place l) bytes ≡ flat_map order_encoding p.orders ++ rest

stands_there : (p : Parts) (l : Layout) (bytes rest : List ℕ) → IsLayout bytes l → HasPrefix p bytes rest → StandsThere p l bytes rest
stands_there p l bytes rest laid f =
    let assets : l.assets ≡ length p.tickers = laid.assets ∙ f.assets in
    let accounts : l.accounts ≡ account_count p.balances = laid.accounts ∙ ap (λ n. unsigned_at 4 (11 + 8 * n) bytes) assets ∙ f.accounts in
    let product : account_size l.assets * l.accounts ≡ account_size (length p.tickers) * account_count p.balances = ap (λ n. account_size n * l.accounts) assets ∙ ap (λ n. account_size (length p.tickers) * n) accounts in
    let count : count_place l ≡ 15 + 8 * length p.tickers + account_size (length p.tickers) * account_count p.balances + 44 + 24 * length p.tickers = omega (arith, laid.totals, product, assets) in
    let first : first_place l ≡ 15 + 8 * length p.tickers + account_size (length p.tickers) * account_count p.balances + 48 + 24 * length p.tickers = omega (arith, laid.totals, product, assets) in
    record {
      count = ap (λ k. unsigned_at 4 k bytes) count ∙ f.count;
      orders = ap (λ k. drop k bytes) first ∙ f.orders;
    }

-- more orders are stated than a consistent market may have
pub too_many : (l : Layout) (bytes : List ℕ) (count : ℕ) → IsLayout bytes l → count ≡ unsigned_at 4 (count_place l) bytes → most_orders < count → BeginsWithNoParts bytes
too_many l bytes count laid read many p rest fits is =
    let there = stands_there p l bytes rest laid (prefix p bytes rest fits is) in
    absurd (omega (arith, many, read, there.count, fits.few))

-- the bytes don't have the orders that they state
no_parts : (l : Layout) (bytes : List ℕ) (count : ℕ) → IsLayout bytes l → count ≡ unsigned_at 4 (count_place l) bytes → HasNoOrders count (first_place l) bytes → BeginsWithNoParts bytes
no_parts l bytes count laid read none p rest fits is =
    let there = stands_there p l bytes rest laid (prefix p bytes rest fits is) in
    none p.orders rest (sym (read ∙ there.count)) fits.orders there.orders

pub faulted : (fault : SnapshotFault) (l : Layout) (bytes : List ℕ) (count : ℕ) → IsLayout bytes l → count ≡ unsigned_at 4 (count_place l) bytes → WhereNotSound fault (HasNoOrders count (first_place l) bytes) → WhereNotSound fault (BeginsWithNoParts bytes)
faulted NotSound l bytes count laid read none = no_parts l bytes count laid read none
faulted Memory l bytes count laid read none = none

-- bytes begin with their prefix
pub begins_with_first : (xs bytes : List ℕ) (end : ℕ) → xs ≡ take end bytes → end ≤ length bytes → bytes ≡ xs ++ drop (length xs) bytes
begins_with_first xs bytes end is inside =
    let size : length xs ≡ end = ap length is ∙ length-take-le end bytes inside in
    sym (take-append-drop end bytes) ∙ ap (λ ys. ys ++ drop end bytes) (sym is) ∙ ap (λ n. xs ++ drop n bytes) (sym size)
