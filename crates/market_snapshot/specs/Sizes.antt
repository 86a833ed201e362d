-- How many bytes a checkpoint has, judged by its first bytes.
use Rattle.std.specs.Prelude.{◌≡◌, ◌+◌, ◌≤◌, ℕ, List, ◌++◌, length, drop, All}
use Rattle.std.specs.List.{flat_map}
use Rattle.market_rules.specs.Market.{Market}
use Rattle.market_parts.specs.Parts.{ReadOrder}
use Rattle.market_snapshot.specs.Checkpoints.{IsCheckpoint}
use Rattle.market_snapshot.specs.Encodings.{order_encoding}
use Rattle.market_snapshot.specs.Widths.{FitsOrder}

-- each checkpoint that begins with these bytes has at least n bytes, and exactly n if n of them are here
abbrev pub HasSize : List ℕ → ℕ → Type 0
HasSize bytes n =
    (m : Market) (checkpoint more rest : List ℕ) → IsCheckpoint m checkpoint → bytes ++ more ≡ checkpoint ++ rest
    → (n ≤ length checkpoint) × (n ≤ length bytes → length checkpoint ≡ n)

-- `count` orders from the place `first` on, of which these bytes are the beginning, end at this place or later, and exactly there if that
-- many bytes are here
abbrev pub OrdersEndAt : List ℕ → (first count end : ℕ) → Type 0
OrdersEndAt bytes first count end =
    (orders : List ReadOrder) (more rest : List ℕ) → length orders ≡ count → All FitsOrder orders → drop first (bytes ++ more) ≡ flat_map order_encoding orders ++ rest
    → (end ≤ first + length (flat_map order_encoding orders)) × (end ≤ length bytes → first + length (flat_map order_encoding orders) ≡ end)
