pub mod Counts
pub mod Found
pub mod Node
pub mod Reading
pub mod Rows
pub mod Tally
pub mod View
pub mod Walk
