pub mod Draws
pub mod Orders
pub mod Files
pub mod Laws
