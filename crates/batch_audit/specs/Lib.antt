pub mod Legal
pub mod Judging
pub mod Findings
pub mod Laws
pub mod Private
