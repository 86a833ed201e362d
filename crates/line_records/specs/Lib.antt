pub mod Lines
pub mod Encoded
pub mod Private
pub mod Laws
