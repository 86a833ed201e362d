mod Members
pub mod OneEnvelope
