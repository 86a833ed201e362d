pub mod Held
pub mod StatementLaws
mod Telling
