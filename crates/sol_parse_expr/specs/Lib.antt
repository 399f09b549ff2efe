pub mod Ends
pub mod Grammar
pub mod Heights
pub mod Longest
pub mod Place
pub mod Reading
