pub mod Lines
pub mod Answers
pub mod Questions
pub mod Private
pub mod Laws
