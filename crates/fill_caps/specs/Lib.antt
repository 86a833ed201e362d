pub mod Covers
pub mod Moves
pub mod Room
pub mod Settlement
pub mod Settles
pub mod Laws
