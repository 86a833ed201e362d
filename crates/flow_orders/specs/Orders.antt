-- An order, what it may still trade, and what it reserves for that. Limits are in grains.
use Rattle.std.specs.Prelude.{◌≡◌, ℕ, ◌+◌, ◌-◌, ◌*◌, ◌^◌, ◌<◌, ◌≤◌, min, ◌==◌, if◌then◌else◌, ℤ, pos, negsuc, ◌*ℤ◌, ◌<ℤ◌, List, Option, Some, None}
use Rattle.weight_rows.specs.declared.entries.Entry.{Entry}
use Rattle.list_sums.specs.Sums.{int_sum_by}
use Rattle.weight_rows.specs.Rows.{IsWeightVector, weight_in}
use Rattle.demand_curve.specs.Demand.{Terms, IsWithin, IsWithinLimits}
use Rattle.demand_curve.specs.Numbers.{or_zero}

-- an order: its number and account, its low and high limit, its rate, its cap and how much of it is filled, its weight vector,
-- and the number of the last batch in which it trades, 0 if it has none
pub record Order : Type 0 where
  pub number : ℕ
  pub account : ℕ
  pub low : ℤ
  pub high : ℤ
  pub rate : ℕ
  pub cap : ℕ
  pub filled : ℕ
  pub row : List Entry
  pub last : ℕ

-- the greatest absolute value of a limit, in ticks
abbrev pub most_ticks : ℕ
most_ticks = 2 ^ 28

-- the highest cap, in units of a portfolio
abbrev pub most_cap : ℕ
most_cap = 2 ^ 40

-- both limits are in range, in ticks, and the low one is below the high one
abbrev pub AreLimits : ℤ → ℤ → Type 0
AreLimits low high = IsWithin most_ticks low × IsWithin most_ticks high × (low <ℤ high)

-- how many orders may be live at once; proofs cite its bounds, and never its value
unfoldable pub most_orders : ℕ
most_orders = 16384

-- a number from 1 to `most`
abbrev pub IsFrom1To : ℕ → ℕ → Type 0
IsFrom1To most n = (1 ≤ n) × (n ≤ most)

-- the remaining quantity of an order: its cap less what it has bought
abbrev pub remaining_quantity : Order → ℕ
remaining_quantity o = o.cap - o.filled

-- the terms of an order's curve; its room is its batch maximum: the rate or the remaining quantity, whichever is less
abbrev pub terms_of : Order → Terms
terms_of o = record { low = o.low; high = o.high; rate = o.rate; room = min o.rate (remaining_quantity o) }

-- a price of whole ticks, in grains
abbrev pub price_of_ticks : ℤ → ℤ
price_of_ticks ticks = pos (2 ^ 32) *ℤ ticks

-- an order within the limits, which are whole ticks, of which some quantity remains
pub record IsOrder (o : Order) : Type 0 where
  pub terms : IsWithinLimits (terms_of o)
  pub ticks : (low : ℤ) × (high : ℤ) × (o.low ≡ price_of_ticks low) × (o.high ≡ price_of_ticks high)
  pub cap : o.cap ≤ most_cap
  pub left : o.filled < o.cap
  pub row : IsWeightVector o.row

-- how many units of an asset with this weight one unit of a portfolio gives away
abbrev pub sold : ℤ → ℕ
sold (pos _) = 0
sold (negsuc n) = n + 1

-- what an order reserves for its remaining quantity: of money (None), in grains, its high limit, or 0 if that is negative, for each unit of
-- its portfolio; of an asset (Some), what each gives away
abbrev pub need_of : Option ℕ → Order → ℕ
need_of None o = or_zero o.high * remaining_quantity o
need_of (Some asset) o = sold (weight_in o.row asset) * remaining_quantity o

-- the sum of f over those elements of a list that belong to an account
abbrev pub own_sum : {X : Type 0} → (X → ℕ) → ℕ → (X → ℤ) → List X → ℤ
own_sum whose account f xs = int_sum_by (λ x. if whose x == account then f x else pos 0) xs

-- what the orders of an account reserve of a kind, in grains or in units
abbrev pub needed : List Order → ℕ → Option ℕ → ℤ
needed orders account kind = own_sum (λ o. o.account) account (λ o. pos (need_of kind o)) orders

-- ---- of money and of units, by names of their own

-- the money that an order reserves, in grains
abbrev pub money_need : Order → ℕ
money_need o = need_of None o

-- the units of an asset that an order reserves
abbrev pub unit_need : ℕ → Order → ℕ
unit_need asset o = need_of (Some asset) o

-- the money that the orders of an account reserve, in grains
abbrev pub needed_money : List Order → ℕ → ℤ
needed_money orders account = needed orders account None

-- the units of an asset that the orders of an account reserve
abbrev pub needed_units : List Order → ℕ → ℕ → ℤ
needed_units orders account asset = needed orders account (Some asset)
