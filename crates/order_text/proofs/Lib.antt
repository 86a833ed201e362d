pub mod Named
pub mod Weights
pub mod Rows
pub mod AskedFor
pub mod Ladders
pub mod ShortRows
pub mod ReadNumbers
pub mod Fitting
pub mod Sizes
mod Questions
mod ByWord
pub mod OneAnswers
