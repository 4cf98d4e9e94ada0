pub mod Walks
pub mod Rows
pub mod Settings
pub mod Seen
pub mod Steps
pub mod Passes
