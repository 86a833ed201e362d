pub mod Images
pub mod Disks
pub mod Files
