pub mod Reading
pub mod Agreed
pub mod Sizes
pub mod Showing
