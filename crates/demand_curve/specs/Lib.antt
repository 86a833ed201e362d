pub mod Numbers
pub mod Demand
pub mod Curve
pub mod Welfare
pub mod Laws
