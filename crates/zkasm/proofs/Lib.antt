pub mod Rooms
pub mod Printing
pub mod Transcripts
pub mod Examples
mod Sources
