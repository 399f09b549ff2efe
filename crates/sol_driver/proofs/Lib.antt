pub mod Writing
pub mod Sources
pub mod Findings
pub mod Outcomes
pub mod Numbers
pub mod Exactly
pub mod Programs
