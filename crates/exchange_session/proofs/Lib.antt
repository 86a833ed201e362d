mod Writable
mod Frames
mod AnswersFit
mod Written
pub mod Opening
pub mod RunLaws
