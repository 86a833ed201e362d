pub mod Summary
pub mod Private
pub mod Laws
