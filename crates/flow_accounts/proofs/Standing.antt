-- The balances that the fields of an `Accounts` represent.
use Rattle.std.proofs.Common.{◌≡◌, arith}
use Rattle.std.proofs.lemmas.List.{length-take-le}
use Rattle.flow_accounts.specs.declared.Accounts.TheInside.{Inside}
use Rattle.flow_accounts.specs.Balances.{Balances, asset_count}
use Rattle.flow_accounts.specs.Places.{balances_in, AreKept}

-- the invariant holds for the fields, and they represent these balances
pub record StandsFor (a : Inside) (b : Balances) : Type 0 where
  pub kept : AreKept a
  pub shown : balances_in a ≡ b

-- the balances have as many assets as the fields
pub asset_count-in : (a : Inside) → AreKept a → asset_count (balances_in a) ≡ a.holdings.assets
asset_count-in a kept = length-take-le a.holdings.assets a.total_units (let made = kept.totals.places_made in let few = kept.few_assets in omega arith)
