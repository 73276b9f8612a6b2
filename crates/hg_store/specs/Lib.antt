pub mod Names
pub mod Rows
pub mod Standing
pub mod Storing
pub mod Taking
