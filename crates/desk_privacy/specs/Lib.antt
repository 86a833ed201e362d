pub mod Letters
pub mod Observing
pub mod Knowing
pub mod Laws
