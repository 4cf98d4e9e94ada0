pub mod Pens
pub mod Inks
pub mod Rules
pub mod Prints
pub mod Laws
