pub mod Views
pub mod Enters
