mod Wholes
mod Counted
pub mod Steadiness
pub mod EvenLaws
pub mod Alone
mod Columns
pub mod Tested
pub mod MovedEven
pub mod Lowering
mod Adding
mod SideSums
pub mod SinglesEven
