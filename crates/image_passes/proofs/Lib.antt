pub mod Faults
pub mod Reaching
mod Spelling
pub mod Steps
pub mod Resolving
pub mod Passes
pub mod Scanning
pub mod Answers
