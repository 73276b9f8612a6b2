pub mod Ascending
pub mod Digits
pub mod Forty
pub mod Fronts
pub mod LineFaults
pub mod Loads
pub mod Places
pub mod Plain
pub mod Reading
pub mod Searching
pub mod Texts
mod Worked
