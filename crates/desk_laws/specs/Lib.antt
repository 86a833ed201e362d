pub mod Heard
pub mod Rights
pub mod Laws
