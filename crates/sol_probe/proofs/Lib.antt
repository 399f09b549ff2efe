pub mod Choosing
pub mod Filling
pub mod FirstHits
pub mod Fitting
