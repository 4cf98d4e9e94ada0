pub mod Lines
mod Inks
mod Digits
pub mod Rules
pub mod Printed
pub mod Written
pub mod Measured
