pub mod Firsts
pub mod Slots
pub mod Stands
