use Rattle.std.proofs.Common.{◌≡◌, ◌≤◌, length, take}
use Rattle.std.specs.Prelude.{vec_len, vec_capacity}
use Rattle.canonical_rule.specs.Canonical.{floor_rates}
use Rattle.rate_rounding.proofs.floor_rates.Given as goal

abbrev pub invariant-loop-order : goal.invariant-loop-order
invariant-loop-order l =
    (l.rates.items ≡ floor_rates (take l.order-index l.orders) l.prices)
    × (vec_len l.rates ≡ l.order-index)
    × (length l.orders ≤ vec_capacity l.rates)
