pub mod Below
pub mod Judging
pub mod Kept
pub mod Named
pub mod Steps
pub mod Stops
