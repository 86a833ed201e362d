pub mod Answers
pub mod Inputs
pub mod Keeping
pub mod Ended
pub mod Private
pub mod Laws
