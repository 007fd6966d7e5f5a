pub mod Sources
pub mod Promised
pub mod Laws
