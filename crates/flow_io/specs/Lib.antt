pub mod Faults
pub mod Streams
pub mod Changes
pub mod Whole
pub mod Standard
pub mod Windows
pub mod Private
