pub mod Promised
pub mod Tree
