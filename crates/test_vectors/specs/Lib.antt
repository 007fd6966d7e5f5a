pub mod Tables
pub mod Answers
pub mod Rooms
pub mod Given
pub mod Counts
