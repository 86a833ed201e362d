pub mod OrderStates
pub mod Rounds
pub mod Sums
pub mod Elimination
pub mod Steps
