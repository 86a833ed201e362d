mod InTurn
mod Lowering
pub mod Settling
