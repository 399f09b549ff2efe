pub mod Counting
pub mod Beginning
