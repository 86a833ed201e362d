pub mod Words
pub mod Statuses
pub mod Keeping
pub mod Lines
pub mod Hosts
pub mod Laws
