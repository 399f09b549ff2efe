pub mod Fits
pub mod Divisors
pub mod Quotients
pub mod Ranges
pub mod Ring
pub mod Halves
pub mod Values
