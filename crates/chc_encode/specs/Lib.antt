pub mod Few
pub mod PathRows
pub mod Sizes
pub mod Sound
pub mod Systems
