pub mod Bytes
pub mod Numbers
pub mod Names
pub mod Promised
pub mod Words
