pub mod Puts
pub mod Moves
