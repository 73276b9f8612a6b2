pub mod Flags
pub mod Entry
pub mod Written
pub mod Steps
pub mod Table
