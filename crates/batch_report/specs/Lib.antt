pub mod Reports
pub mod Private
pub mod Laws
