pub mod Replies
pub mod Bodies
pub mod Numbered
pub mod Private
pub mod Pairs
pub mod Formats
pub mod Views
pub mod Laws
