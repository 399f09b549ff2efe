pub mod Typing
pub mod Stating
pub mod Visiting
pub mod Typed
pub mod Fitting
pub mod HalfTypes
