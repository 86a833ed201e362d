pub mod Long
pub mod Finding
pub mod Private
