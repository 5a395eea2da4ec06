pub mod Puts
pub mod Runs
