pub mod Views
pub mod Holdings
pub mod Statements
pub mod Laws
