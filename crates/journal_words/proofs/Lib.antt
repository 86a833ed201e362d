mod LongestPair
pub mod JournalLaws
