pub mod Specifiers
pub mod MemberKinds
pub mod StateTypes
pub mod Initialisers
pub mod Members
