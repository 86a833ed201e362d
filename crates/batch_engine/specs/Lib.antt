pub mod Certified
pub mod Private
