pub mod Noted
pub mod Own
