pub mod Same
pub mod Walks
pub mod Forest
