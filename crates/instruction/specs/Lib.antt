pub mod Table
pub mod Operands
pub mod Kinds
pub mod Words
pub mod Fits
pub mod Text
pub mod Promised
pub mod Forms
