pub mod Beginning
pub mod Found
pub mod Fronts
pub mod NoPaths
pub mod Refusals
pub mod Strays
pub mod Told
