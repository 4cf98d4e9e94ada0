pub mod Texts
pub mod Faults
