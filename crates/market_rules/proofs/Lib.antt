pub mod Accepted
pub mod ByFirst
mod Decided
mod Ending
pub mod Exists
mod Fills
mod HeldTotals
pub mod VersionLimits
pub mod LawProofs
pub mod Lawful
mod Made
pub mod OneJournal
pub mod OneStep
mod OwnNeeds
pub mod Promised
mod ConsistentBalances
pub mod ConsistentBatch
mod ConsistentOrders
pub mod Consistency
pub mod Starts
pub mod ByKind
pub mod Versions
