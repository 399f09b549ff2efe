pub mod Entries
pub mod Weights
pub mod Views
pub mod Told
pub mod Rule
pub mod Sections
pub mod Calls
pub mod Gathered
