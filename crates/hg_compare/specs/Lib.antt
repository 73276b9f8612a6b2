pub mod Alike
pub mod Pieces
pub mod Same
pub mod Seen
pub mod Tracked
