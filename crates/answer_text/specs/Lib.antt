pub mod Texts
pub mod Answers
pub mod Accounts
pub mod Private
