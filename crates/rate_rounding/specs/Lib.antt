pub mod Laws
pub mod Private
