pub mod Constants
pub mod Candidates
pub mod Firsts
