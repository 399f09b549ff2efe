pub mod Drops
pub mod Proofs
pub mod Rounds
pub mod Candidates
