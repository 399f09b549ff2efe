pub mod Content
pub mod Tested
pub mod Unproved
pub mod Items
