pub mod Entries
pub mod Lengths
pub mod OneList
mod Appending
mod Grouping
pub mod Opening
mod Beginning
pub mod PairBytes
mod Framing
mod Stepping
pub mod GoingOn
pub mod Excluding
pub mod Undamaged
pub mod OpenedEntries
pub mod Pieces
pub mod FirstEntry
