pub mod Taking
pub mod Starting
