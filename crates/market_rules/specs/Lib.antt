pub mod Market
pub mod Settling
pub mod Step
pub mod Journal
pub mod Deposits
pub mod Promises
pub mod Allocating
pub mod Laws
