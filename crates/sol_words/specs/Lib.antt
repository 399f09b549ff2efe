pub mod Target
pub mod Arguments
pub mod Request
