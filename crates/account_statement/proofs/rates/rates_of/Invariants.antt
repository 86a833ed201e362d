use Rattle.std.proofs.Common.{◌≡◌, ◌≤◌, length, take}
use Rattle.std.specs.Prelude.{vec_len, vec_capacity}
use Rattle.account_statement.specs.Private.{rates_for}
use Rattle.account_statement.proofs.rates.rates_of.Given as goal

abbrev pub invariant-loop-order : goal.invariant-loop-order
invariant-loop-order l =
    (l.rates.items ≡ rates_for l.view.clearing.fills (take l.order-index l.orders))
    × (vec_len l.rates ≡ l.order-index)
    × (length l.orders ≤ vec_capacity l.rates)
