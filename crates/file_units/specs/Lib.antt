pub mod Units
pub mod Inputs
