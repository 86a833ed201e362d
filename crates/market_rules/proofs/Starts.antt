-- The prices at which a batch starts are near enough to 0.
use Rattle.std.proofs.Common.{◌^◌, ℤ, arith}
use Rattle.std.specs.Prelude.{All, slice_index_or}
use Rattle.std.proofs.lemmas.Int.{ints, clamps}
use Rattle.std.proofs.lemmas.List.Elements.{All-map}
use Rattle.demand_curve.specs.Demand.{IsWithin}
use Rattle.market_rules.specs.Market.{Market, start_prices, cut_price}

cut_within : (p : ℤ) → IsWithin (2 ^ 60) (cut_price p)
cut_within p = (omega (arith, ints, clamps), omega (arith, ints, clamps))

pub start_within : (m : Market) → All (IsWithin (2 ^ 60)) (start_prices m)
start_within m = All-map (IsWithin (2 ^ 60)) cut_price m.last_prices (λ k d inside. cut_within (slice_index_or m.last_prices k d))
