pub mod Promised
pub mod Laws
