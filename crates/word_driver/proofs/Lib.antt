pub mod Pieces
mod Puts
pub mod Going
pub mod Ahead
pub mod OneEnds
pub mod Alike
mod Doing
pub mod Tasks
pub mod Whole
pub mod Denying
pub mod SomeEnds
