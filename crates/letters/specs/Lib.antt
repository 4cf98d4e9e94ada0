pub mod Letters
pub mod Counts
