mod LogLemmas
mod MemoryCalls
mod ConsistentLemmas
