pub mod Answers
pub mod Starts
pub mod Places
pub mod Operands
pub mod Labels
pub mod Lines
pub mod Records
pub mod Unique
