pub mod Cuts
pub mod Pieces
pub mod Scripts
pub mod Answering
pub mod Turning
