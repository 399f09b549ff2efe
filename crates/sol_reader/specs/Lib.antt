pub mod Places
pub mod Language
pub mod Starts
pub mod Reading
