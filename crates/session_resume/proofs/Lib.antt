mod Firsts
mod Magics
mod Written
pub mod OneFirst
pub mod OneResumption
mod After
mod Taken
pub mod SomeResumption
