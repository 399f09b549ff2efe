pub mod Literals
pub mod Obligations
pub mod Reduced
pub mod Rows
pub mod Premises
