pub mod Tickers
pub mod Adding
pub mod Laws
