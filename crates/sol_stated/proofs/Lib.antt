pub mod Turns
pub mod Stating
