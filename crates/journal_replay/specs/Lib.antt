pub mod Audits
pub mod Replays
pub mod Private
pub mod Laws
