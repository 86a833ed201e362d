mod Taking
pub mod Endings
pub mod Gone
pub mod Longest
