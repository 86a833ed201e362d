pub mod Expected
pub mod Private
pub mod Prices
pub mod Kept
pub mod Listing
