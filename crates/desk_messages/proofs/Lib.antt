mod Chains
mod Collecting
pub mod Telling
