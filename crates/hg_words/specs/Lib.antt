pub mod Clapped
pub mod Command
pub mod Given
pub mod Help
pub mod Told
