pub mod Counting
pub mod Judged
pub mod Replayed
pub mod LawProofs
