pub mod Beginnings
pub mod Books
pub mod Laws
pub mod Openings
pub mod Private
