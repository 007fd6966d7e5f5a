pub mod Promised
pub mod Promises
