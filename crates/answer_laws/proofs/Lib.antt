mod ReadBack
mod Names
mod Legs
mod Escapes
mod Echoes
pub mod TheEcho
pub mod InTheMarket
