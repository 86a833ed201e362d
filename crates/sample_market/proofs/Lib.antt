mod Written
mod Drawn
mod Lawful
pub mod Short
pub mod LawProofs
