pub mod Firsts
pub mod Continuing
pub mod Rests
pub mod Resuming
pub mod Tasks
pub mod Private
