pub mod Keeps
pub mod Passes
