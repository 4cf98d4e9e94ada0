pub mod Digests
pub mod Shows
pub mod Heads
