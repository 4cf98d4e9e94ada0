pub mod Forms
pub mod Noted
pub mod Readings
pub mod Counts
