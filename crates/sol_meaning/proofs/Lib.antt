pub mod Statements
pub mod Values
