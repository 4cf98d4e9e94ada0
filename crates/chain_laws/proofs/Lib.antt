pub mod Tools
pub mod Chains
pub mod Plans
pub mod Ranges
