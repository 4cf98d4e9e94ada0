pub mod SeedWrites
pub mod Views
pub mod Fresh
pub mod Passing
