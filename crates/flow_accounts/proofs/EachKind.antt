-- Money and each asset: what holds of both holds of each kind.
use Rattle.std.proofs.Common.{ℕ, Option, Some, None}
use Rattle.flow_accounts.specs.Balances.{Balances, IsAsset, IsKind}

-- P: what holds of a kind
pub each_kind : (b : Balances) (P : Option ℕ → Type 0) → P None → ((asset : ℕ) → IsAsset b asset → P (Some asset)) → (kind : Option ℕ) → IsKind b kind → P kind
each_kind b P money units None there = money
each_kind b P money units (Some asset) there = units asset there
