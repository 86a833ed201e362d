pub mod Products
pub mod SumLemmas
