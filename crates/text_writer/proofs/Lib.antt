pub mod Writing
pub mod Decimals
pub mod Sinks
