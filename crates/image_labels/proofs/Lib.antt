pub mod Finding
mod Hashing
pub mod Named
mod Roots
