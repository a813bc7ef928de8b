pub mod Answer
pub mod Feed
pub mod Pieces
pub mod Feeds
pub mod Whole
pub mod Made
mod Examples
