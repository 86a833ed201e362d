pub mod Ended
pub mod Word
pub mod Pieces
pub mod Does
pub mod Laws
pub mod Private
