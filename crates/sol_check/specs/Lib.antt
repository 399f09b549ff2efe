pub mod Verdicts
pub mod Reports
pub mod Found
