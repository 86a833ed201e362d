-- What accounts must cover for their live orders.
use Rattle.std.specs.Prelude.{ℕ, ◌≤ℤ◌, List, Option}
use Rattle.flow_accounts.specs.Balances.{Balances, IsAccount, IsKind, balance_with_credit}
use Rattle.flow_orders.specs.Orders.{Order, needed}

-- each account holds, with its credit, at least what its live orders reserve, of money and of each asset
abbrev pub CoversNeeds : Balances → List Order → Type 0
CoversNeeds b orders =
    (account : ℕ) (kind : Option ℕ) → IsAccount b account → IsKind b kind → needed orders account kind ≤ℤ balance_with_credit b account kind
