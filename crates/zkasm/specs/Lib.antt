pub mod Promised
pub mod Stdin
pub mod Zkasm
pub mod Source
