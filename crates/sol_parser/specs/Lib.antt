pub mod Grammar
pub mod Heights
pub mod Reading
pub mod Trees
