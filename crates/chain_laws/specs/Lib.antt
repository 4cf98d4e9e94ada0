pub mod Chains
pub mod Plans
