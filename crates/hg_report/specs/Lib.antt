pub mod Cause
pub mod Debug
pub mod Fault
pub mod Load
pub mod Refusal
pub mod Status
pub mod Warnings
