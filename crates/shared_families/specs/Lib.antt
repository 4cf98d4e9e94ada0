pub mod Hashes
pub mod Starts
pub mod Lanes
pub mod Folds
pub mod Packs
