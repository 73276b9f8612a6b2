pub mod Entering
pub mod Keeping
pub mod Naming
pub mod Placing
pub mod Listed
pub mod Packing
pub mod Reading
