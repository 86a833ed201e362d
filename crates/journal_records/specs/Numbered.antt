-- Batches as a reply has them: what is published, under the batch's number.
use Rattle.std.specs.Prelude.{ℕ}
use Rattle.flow_orders.specs.Outcomes.{Clearing, Skipping}

-- a batch that cleared, with its number
pub record ClearedBatch : Type 0 where
  pub batch : ℕ
  pub clearing : Clearing

-- a batch that was skipped, with its number
pub record SkippedBatch : Type 0 where
  pub batch : ℕ
  pub skipping : Skipping
