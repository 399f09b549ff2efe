pub mod Sizes
pub mod RunPasses
pub mod Proofs
pub mod Pools
pub mod Growing
pub mod Standing
