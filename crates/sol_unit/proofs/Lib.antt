pub mod Reading
pub mod Alone
pub mod Growing
pub mod Sharing
pub mod Marking
