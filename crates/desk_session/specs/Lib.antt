pub mod Talks
pub mod Lines
pub mod States
pub mod Said
pub mod Private
pub mod Bounds
