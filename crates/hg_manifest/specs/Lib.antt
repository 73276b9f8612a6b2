pub mod Found
pub mod Front
pub mod Kept
pub mod Line
pub mod Load
pub mod Loaded
pub mod Plain
pub mod Rows
