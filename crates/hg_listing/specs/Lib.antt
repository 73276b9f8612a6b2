pub mod Cause
pub mod Full
pub mod Order
