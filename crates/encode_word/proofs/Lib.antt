pub mod Starting
pub mod LinesTo
pub mod Encoding
pub mod NoLine
pub mod FirstBytes
pub mod Prefixes
mod Copying
mod Written
pub mod TickersLeft
