pub mod Ascii
pub mod Branches
pub mod Foreign
pub mod Hex
pub mod ReadBack
