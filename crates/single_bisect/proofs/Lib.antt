pub mod Halving
pub mod Narrowing
pub mod Answered
