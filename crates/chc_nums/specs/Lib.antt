pub mod Types
pub mod Values
pub mod Wide
pub mod Totals
