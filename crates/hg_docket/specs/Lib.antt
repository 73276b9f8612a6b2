pub mod Docket
pub mod Name
pub mod Number
pub mod Written
