pub mod RowLemmas
pub mod FaultLemmas
pub mod RowLawProofs
