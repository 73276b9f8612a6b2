pub mod Laws
pub mod Stamps
pub mod Vouching
