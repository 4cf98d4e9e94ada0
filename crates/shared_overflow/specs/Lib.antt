pub mod Overflow
