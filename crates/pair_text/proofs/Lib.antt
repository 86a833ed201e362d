pub mod Joining
mod Passed
