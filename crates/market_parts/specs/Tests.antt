-- What is tested of the parts of a market. Balances are tested apart from the other parts, as they are read apart.
use Rattle.std.specs.Prelude.{◌≡◌, ◌≢◌, ◌⊎◌, ℕ, ◌*◌, ◌^◌, ◌<◌, ◌≤◌, ℤ, pos, ◌+ℤ◌, ◌≤ℤ◌, ◌<ℤ◌, unsigned_abs, List, [], length, slice_index_or, All, AllPairs}
use Rattle.weight_rows.specs.declared.entries.Entry.{Entry}
use Rattle.weight_rows.specs.Rows.{IsWeightVector, IsPrice, price_of}
use Rattle.wire_records.specs.declared.version.Version.{Version}
use Rattle.wire_records.specs.declared.version.Version.TheVariants.{One, Two, Three, Four}
use Rattle.wire_records.specs.declared.limits.Limits.{Limits}
use Rattle.wire_records.specs.Limits.{limits_of}
use Rattle.demand_curve.specs.Demand.{most_rate}
use Rattle.flow_accounts.specs.Balances.{Balances, IsAccount, IsAsset, account_count, asset_count, grains, money_of, units_of, units_in, money_with_credit, units_with_credit, money_credit_of, unit_credit_of, total_units_of}
use Rattle.flow_accounts.specs.Lawful.{most_accounts, most_assets, most_credit, IsMoneyTotal, IsUnitTotal}
use Rattle.flow_accounts.specs.Sums.{money_of_all, units_of_all}
use Rattle.flow_accounts.specs.Parts.{HasOneOfEach}
use Rattle.flow_orders.specs.Orders.{Order, AreLimits, IsFrom1To, most_cap, needed_money, needed_units}
use Rattle.market_parts.specs.declared.order.OrderParts.{OrderParts}
use Rattle.market_parts.specs.Parts.{ReadOrder, Parts, numbers_of}

-- ---- balances

-- the highest credit in a market of a version, in ticks or in units
abbrev pub most_credit_in : Version → ℕ
most_credit_in One = 0
most_credit_in Two = most_credit
most_credit_in Three = most_credit
most_credit_in Four = most_credit

-- money in grains and its credit in ticks: the credit is at most `most`, no more is owed than it, and the money fits its width
pub record IsConsistentMoney (most : ℕ) (money : ℤ) (ticks : ℕ) : Type 0 where
  pub credit : ticks ≤ most
  pub covered : pos 0 ≤ℤ (money +ℤ grains ticks)
  pub width : money <ℤ pos (2 ^ 124)

-- units of an asset and their credit: the credit is at most `most`, no more is owed than it, and the units fit their width
pub record AreConsistentUnits (most : ℕ) (units : ℤ) (credit : ℕ) : Type 0 where
  pub within : credit ≤ most
  pub covered : pos 0 ≤ℤ (units +ℤ pos credit)
  pub width : units <ℤ pos (2 ^ 62)

-- the units of each asset in an account, and their credits, are within their limits
abbrev pub HasConsistentUnits : ℕ → Balances → ℕ → Type 0
HasConsistentUnits most b account = (asset : ℕ) → IsAsset b asset → AreConsistentUnits most (units_of b account asset) (unit_credit_of b account asset)

-- an account's money and units of each asset, and their credits, are within their limits
pub record IsConsistentAccount (most : ℕ) (b : Balances) (account : ℕ) : Type 0 where
  pub money : IsConsistentMoney most (money_of b account) (money_credit_of b account)
  pub units : HasConsistentUnits most b account

-- all balances: counts, totals and accounts are within their limits
pub record AreConsistentBalances (most : ℕ) (b : Balances) : Type 0 where
  pub one_each : HasOneOfEach b
  pub few_accounts : account_count b ≤ most_accounts
  pub few_assets : asset_count b ≤ most_assets
  pub total_money : IsMoneyTotal b.totals.money
  pub total_units : (asset : ℕ) → IsAsset b asset → IsUnitTotal (total_units_of b asset)
  pub accounts : (account : ℕ) → IsAccount b account → IsConsistentAccount most b account

-- accounts and the exchange's money hold the total of money
abbrev pub IsMoneyHeld : Balances → ℤ → Type 0
IsMoneyHeld b exchange = (money_of_all b +ℤ exchange) ≡ b.totals.money

-- accounts and the exchange's units of an asset hold the asset's total
abbrev pub AreUnitsHeld : Balances → ℕ → ℤ → Type 0
AreUnitsHeld b asset exchange = (units_of_all b asset +ℤ exchange) ≡ total_units_of b asset

-- ---- numbers

-- the balances are those of the parts, and there is one ticker, one last price and one of the exchange's balances for each asset
pub record IsInShape (b : Balances) (p : Parts) : Type 0 where
  pub same : p.balances ≡ b
  pub tickers : length p.tickers ≡ asset_count b
  pub exchange : length p.exchange.units ≡ asset_count b
  pub prices : length p.last_prices ≡ asset_count b

-- the last price of an asset and what the exchange holds of it are within their limits, and its total is held
pub record IsConsistentAsset (b : Balances) (p : Parts) (asset : ℕ) : Type 0 where
  pub price : IsPrice (price_of p.last_prices asset)
  pub exchange : unsigned_abs (units_in p.exchange asset) ≤ p.batches * 2 ^ 31
  pub held : AreUnitsHeld b asset (units_in p.exchange asset)

-- the number that the next order gets, and how many assets, batches and orders there are, are within their limits
pub record HasConsistentCounts (limits : Limits) (b : Balances) (p : Parts) : Type 0 where
  pub next : (1 ≤ p.next_order) × (p.next_order < 2 ^ 63)
  pub few_assets : asset_count b ≤ limits.assets
  pub few_batches : p.batches ≤ limits.batches
  pub few_orders : length p.orders ≤ limits.orders

-- what the exchange holds is within its limits, and accounts and exchange hold the totals
pub record HasConsistentSums (b : Balances) (p : Parts) : Type 0 where
  pub exchange : unsigned_abs p.exchange.money ≤ p.batches * 2 ^ 99
  pub held : IsMoneyHeld b p.exchange.money
  pub assets : (asset : ℕ) → IsAsset b asset → IsConsistentAsset b p asset

-- all parts but tickers and orders are within their limits in a version, and the totals are held
pub record AreConsistentNumbers (version : Version) (b : Balances) (p : Parts) : Type 0 where
  pub counts : HasConsistentCounts (limits_of version) b p
  pub balances : AreConsistentBalances (most_credit_in version) b
  pub sums : HasConsistentSums b p

-- ---- orders

-- an order of zeros
abbrev pub no_order : ReadOrder
no_order = record { number = 0; account = 0; low = pos 0; high = pos 0; rate = 0; cap = 0; filled = 0; last = 0; row = [] }

-- the order at a place
abbrev pub order_at : Parts → ℕ → ReadOrder
order_at p place = slice_index_or p.orders place no_order

-- an order has no last batch, or, in another version than One, one that is still to come
abbrev pub IsStillToCome : Version → ℕ → ℕ → Type 0
IsStillToCome version batches last = (last ≡ 0) ⊎ ((version ≢ One) × (batches < last))

-- limits in ticks, rate and cap of an order are valid, and it isn't filled to its cap
pub record HasConsistentTerms (o : OrderParts) : Type 0 where
  pub limits : AreLimits o.low o.high
  pub rate : IsFrom1To most_rate o.rate
  pub cap : IsFrom1To most_cap o.cap
  pub left : o.filled < o.cap

-- the numbers of an order are those of a live one
pub record HasConsistentNumbers (version : Version) (b : Balances) (p : Parts) (o : OrderParts) : Type 0 where
  pub terms : HasConsistentTerms o
  pub number : (1 ≤ o.number) × (o.number < p.next_order)
  pub account : IsAccount b o.account
  pub in_time : IsStillToCome version p.batches o.last

-- a weight vector of at most so many legs, and of assets that are there
pub record IsConsistentRow (legs assets : ℕ) (row : List Entry) : Type 0 where
  pub lawful : IsWeightVector row
  pub few : length row ≤ legs
  pub there : All (λ (e : Entry). e.asset < assets) row

-- an order is a live one
pub record IsConsistentOrder (version : Version) (b : Balances) (p : Parts) (o : ReadOrder) : Type 0 where
  pub numbers : HasConsistentNumbers version b p (numbers_of o)
  pub row : IsConsistentRow (limits_of version).legs (asset_count b) o.row

-- all orders are live ones, and their numbers ascend
pub record AreConsistentOrders (version : Version) (b : Balances) (p : Parts) : Type 0 where
  pub each : (place : ℕ) → place < length p.orders → IsConsistentOrder version b p (order_at p place)
  pub ascending : AllPairs (λ (o : ReadOrder) (later : ReadOrder). o.number < later.number) p.orders

-- an account holds, with its credit, at least what its orders need
pub record CoversAccount (b : Balances) (orders : List Order) (account : ℕ) : Type 0 where
  pub money : needed_money orders account ≤ℤ money_with_credit b account
  pub units : (asset : ℕ) → IsAsset b asset → needed_units orders account asset ≤ℤ units_with_credit b account asset
