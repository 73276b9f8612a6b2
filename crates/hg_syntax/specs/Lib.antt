pub mod Syntax
pub mod Text
