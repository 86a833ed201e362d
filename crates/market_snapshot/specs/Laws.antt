-- Laws of checkpoints.
use Rattle.std.specs.Prelude.{◌≡◌, ℕ, List, ◌++◌}
use Rattle.market_rules.specs.Market.{Market}
use Rattle.market_snapshot.specs.Checkpoints.{IsCheckpoint}

-- bytes begin with a checkpoint of at most one market, and leave one rest
abbrev pub OneMarket : Type 0
OneMarket =
    (m n : Market) (p q x y : List ℕ) → IsCheckpoint m p → IsCheckpoint n q → p ++ x ≡ q ++ y → (m ≡ n) × (x ≡ y)
