pub mod Texts
pub mod Appended
pub mod Private
