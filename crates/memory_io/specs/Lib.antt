pub mod Memory
pub mod Handed
pub mod Fakes
pub mod Disk
pub mod Turns
pub mod Logs
pub mod Sound
pub mod MemoryLaws
