pub mod Envelopes
pub mod Answers
pub mod Laws
