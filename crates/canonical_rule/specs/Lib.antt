pub mod Turns
pub mod Choice
pub mod Attempts
pub mod Canonical
pub mod Units
pub mod Laws
