pub mod Serving
pub mod Halves
pub mod Listing
pub mod Journals
pub mod Running
pub mod Private
