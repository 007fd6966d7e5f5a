pub mod Tokens
pub mod Values
pub mod Lines
pub mod NameSets
pub mod Places
pub mod Promised
