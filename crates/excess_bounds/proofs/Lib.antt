pub mod Sums
pub mod ColumnSums
pub mod ColumnLaws
pub mod Listing
pub mod Requoting
pub mod Kept
mod Halving
pub mod StepFacts
pub mod Moves
pub mod Settled
pub mod ExcessLaws
pub mod Quoting
