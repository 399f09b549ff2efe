pub mod Core
pub mod Marks
pub mod Steps
pub mod Runs
