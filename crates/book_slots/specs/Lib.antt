pub mod Slots
pub mod Spots
