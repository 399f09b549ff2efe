pub mod Bytes
pub mod Punctuators
pub mod QuotedWords
pub mod Reading
pub mod RefusedPunctuators
pub mod Steps
pub mod Tokens
