pub mod Starts
pub mod After
