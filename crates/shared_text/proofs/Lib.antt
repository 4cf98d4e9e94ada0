pub mod Words
pub mod Toks
