pub mod Parts
pub mod Published
pub mod GapBound
pub mod Progress
