pub mod Filled
pub mod FirstHit
pub mod Noted
pub mod Probes
