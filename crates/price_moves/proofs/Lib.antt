pub mod Ends
pub mod Lowering
pub mod MadeAgain
pub mod Near
