pub mod Entries
pub mod Tally
