mod Below
mod Listing
pub mod Making
mod Consistency
mod Summing
