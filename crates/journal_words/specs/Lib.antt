pub mod Line
pub mod Findings
pub mod Watching
pub mod Words
pub mod Private
