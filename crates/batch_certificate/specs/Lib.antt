pub mod Residuals
pub mod Laws
pub mod Verdicts
pub mod Weighing
