pub mod Memory
pub mod Passes
pub mod Laws
pub mod Tables
