pub mod Visits
pub mod Hitting
