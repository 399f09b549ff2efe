pub mod Frames
pub mod Eval
pub mod Exec
pub mod Calling
pub mod Run
