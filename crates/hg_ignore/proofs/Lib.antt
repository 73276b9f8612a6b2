pub mod Asking
pub mod Compiled
pub mod Globs
pub mod Lines
pub mod Sourced
pub mod Staying
pub mod Steps
pub mod Union
