pub mod Lines
pub mod Ordered
pub mod Recorded
