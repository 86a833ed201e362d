-- What a market holds, what its totals are, and what an order may need, of money and of each asset.
use Rattle.std.proofs.Common.{◌≡◌, ℕ, pos, ◌≤ℤ◌, Option, Some, None}
use Rattle.flow_accounts.specs.Balances.{Balances, IsAsset, IsKind, total_of}
use Rattle.flow_accounts.specs.Lawful.{total_limit}
use Rattle.flow_accounts.proofs.EachKind.{each_kind}
use Rattle.flow_orders.specs.Orders.{Order, need_of}
use Rattle.market_rules.specs.Market.{Market, HoldsTotals, held_balance, usable_balance}
use Rattle.market_rules.specs.Step.{IsAffordable}

pub holds_totals : (m : Market) → held_balance m None ≡ total_of m.balances None
    → ((asset : ℕ) → IsAsset m.balances asset → held_balance m (Some asset) ≡ total_of m.balances (Some asset)) → HoldsTotals m
holds_totals m money units = each_kind m.balances (λ kind. held_balance m kind ≡ total_of m.balances kind) money units

pub within_limits : (b : Balances) → total_of b None ≤ℤ total_limit None → ((asset : ℕ) → IsAsset b asset → total_of b (Some asset) ≤ℤ total_limit (Some asset))
    → (kind : Option ℕ) → IsKind b kind → total_of b kind ≤ℤ total_limit kind
within_limits b money units = each_kind b (λ kind. total_of b kind ≤ℤ total_limit kind) money units

pub affords : (m : Market) (o : Order) → pos (need_of None o) ≤ℤ usable_balance m o.account None
    → ((asset : ℕ) → IsAsset m.balances asset → pos (need_of (Some asset) o) ≤ℤ usable_balance m o.account (Some asset)) → IsAffordable m o
affords m o money units = each_kind m.balances (λ kind. pos (need_of kind o) ≤ℤ usable_balance m o.account kind) money units
