pub mod Fronts
pub mod Keeping
pub mod Marking
pub mod Running
pub mod Starting
pub mod Joining
