pub mod Turning
pub mod Spaces
