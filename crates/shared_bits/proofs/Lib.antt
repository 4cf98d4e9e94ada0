pub mod Words
pub mod Masks
pub mod Apart
pub mod Flips
