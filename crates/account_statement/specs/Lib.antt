pub mod Telling
pub mod Kept
pub mod Private
