pub mod Histories
pub mod Reading
pub mod Kept
pub mod Private
