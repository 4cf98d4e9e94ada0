pub mod Events
pub mod Views
pub mod Rows
pub mod Numbers
