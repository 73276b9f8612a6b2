pub mod Format
pub mod Items
pub mod View
pub mod Refusing
pub mod Table
pub mod Agreeing
pub mod Shown
pub mod Showing
