pub mod NumberFacts
pub mod SolvingFacts
pub mod OrderStateFacts
pub mod RowSums
pub mod Filling
pub mod Gathering
pub mod Reaching
