pub mod Attempting
pub mod Choice
pub mod ChoiceByEntries
pub mod Loops
pub mod OneCanonical
mod OnePart
pub mod CanonicalIsAdmissible
pub mod CanonicalLaws
pub mod CanonicalWalks
pub mod Raised
mod Rows
pub mod Walks
pub mod WorkedRows
