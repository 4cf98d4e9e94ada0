pub mod Writes
pub mod Spreads
pub mod Edges
