pub mod LawProofs
pub mod OneCanonicalJournal
pub mod CanonicalIsLegal
pub mod OwnPromises
pub mod CanonicalServed
mod RowLimits
mod VersionRows
mod WorkedRows
