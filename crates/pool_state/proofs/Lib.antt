pub mod Testing
pub mod Proving
pub mod Batching
pub mod Growing
pub mod Following
