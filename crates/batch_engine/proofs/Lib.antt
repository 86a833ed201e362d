pub mod CanonicalClearing
mod Tried
