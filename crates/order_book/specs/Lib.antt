pub mod Book
pub mod Gaps
pub mod Listing
pub mod Sums
pub mod Needs
pub mod Kept
pub mod Laws
