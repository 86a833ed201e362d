pub mod Numbers
pub mod Solving
pub mod OrderStates
pub mod Steps
pub mod Sums
