pub mod Reading
pub mod Writing
pub mod Growth
pub mod Calls
pub mod Filling
