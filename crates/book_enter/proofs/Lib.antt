pub mod Alongs
pub mod Spills
pub mod Enters
pub mod Memories
pub mod Checks
