pub mod Stating
pub mod Private
