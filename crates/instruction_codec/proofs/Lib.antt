pub mod Forms
pub mod Coding
pub mod Words
pub mod Pieces
