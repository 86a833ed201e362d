pub mod Desks
pub mod Messages
pub mod Batches
pub mod Private
