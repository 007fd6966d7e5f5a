pub mod Promised
pub mod Sinks
pub mod Laws
