pub mod Cuts
pub mod Lines
pub mod Pieces
pub mod Reading
pub mod ScriptText
pub mod Told
