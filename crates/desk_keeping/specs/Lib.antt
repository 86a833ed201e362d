pub mod Faults
pub mod Hosting
pub mod Private
