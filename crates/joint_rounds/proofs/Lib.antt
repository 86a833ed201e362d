pub mod StateFacts
pub mod RowAdding
pub mod Gathering
pub mod VectorFacts
pub mod RoundFacts
pub mod Pairing
pub mod Reaching
