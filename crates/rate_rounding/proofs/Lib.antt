pub mod Choosing
pub mod Floors
pub mod Roundings
