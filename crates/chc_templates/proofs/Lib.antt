pub mod Orders
pub mod Ordering
pub mod Splitting
pub mod Large
pub mod Laws
