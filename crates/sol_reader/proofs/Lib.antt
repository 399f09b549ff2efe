pub mod Points
pub mod Names
pub mod Steps
pub mod Members
pub mod Sources
pub mod Each
