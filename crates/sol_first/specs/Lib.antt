pub mod Elaborated
pub mod Typed
