pub mod Starts
pub mod Encoding
pub mod Tasks
pub mod Private
