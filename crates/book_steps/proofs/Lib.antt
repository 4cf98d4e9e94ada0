pub mod Fours
pub mod Shows
pub mod Shown
