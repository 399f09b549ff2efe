pub mod Claiming
pub mod Turning
