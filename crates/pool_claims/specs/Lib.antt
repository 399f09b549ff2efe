pub mod Views
pub mod Counted
pub mod Calls
pub mod Gathered
