pub mod Numbers
pub mod Planned
pub mod Calls
pub mod Tasks
