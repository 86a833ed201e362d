mod Counted
mod Written
pub mod Sampled
pub mod OneSummary
