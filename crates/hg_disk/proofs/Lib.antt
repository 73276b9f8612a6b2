pub mod Listed
pub mod Shallow
pub mod Ways
