pub mod Owned
pub mod Since
