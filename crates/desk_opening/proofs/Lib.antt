mod LongCheckpoints
mod FirstBytes
mod Begun
mod FirstEntries
mod OneBeginning
pub mod Finding
pub mod Along
mod FirstFiles
mod FirstBooks
mod BothBegun
