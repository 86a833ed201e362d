pub mod Told
pub mod Served
pub mod LawProofs
mod Found
pub mod OneFinding
pub mod SomeFinding
