pub mod Settings
pub mod Program
pub mod Opening
pub mod Assembling
pub mod Listing
pub mod Meaning
pub mod Lent
pub mod Promised
