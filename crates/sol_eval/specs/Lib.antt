pub mod Ran
pub mod Runs
pub mod Sized
pub mod Framed
pub mod Makes
