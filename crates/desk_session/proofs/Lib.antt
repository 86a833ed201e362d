mod Parts
mod Counting
mod Fitting
mod Telling
mod Answering
mod Left
pub mod Going
pub mod Bounds
pub mod Answered
