pub mod Moments
pub mod Torn
mod Untold
