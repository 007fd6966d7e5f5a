pub mod Answers
pub mod Bare
pub mod Walks
