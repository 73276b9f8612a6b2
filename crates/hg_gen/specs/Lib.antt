pub mod Copy
pub mod Manifest
pub mod Recorded
