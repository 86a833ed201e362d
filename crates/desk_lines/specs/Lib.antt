pub mod Rights
pub mod Hearing
pub mod Wishes
pub mod Answers
pub mod Laws
