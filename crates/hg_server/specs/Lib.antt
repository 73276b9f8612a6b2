pub mod Failing
pub mod Protocol
pub mod Requests
pub mod Steps
pub mod Replies
pub mod Serving
pub mod Readings
