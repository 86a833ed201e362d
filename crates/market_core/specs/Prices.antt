-- The prices that the fields of last prices represent. There is a place for each asset that there may be, and as many
-- places are in use as there are assets.
use Rattle.std.specs.Prelude.{◌≤◌, ℤ, List, take}
use Rattle.flow_accounts.specs.Lawful.{most_assets}
use Rattle.flow_accounts.specs.Places.{HasSpare}
use Rattle.market_core.specs.declared.prices.LastPrices.TheInside.{Inside}

-- the prices that the fields represent: those of the first places, as many as there are assets
abbrev pub prices_in : Inside → List ℤ
prices_in p = take p.assets p.prices

-- the invariant of the fields: at most 64 assets, and 0 in each place that isn't in use
pub record ArePlaces (p : Inside) : Type 0 where
  pub few_assets : p.assets ≤ most_assets
  pub places : HasSpare p.assets p.prices
